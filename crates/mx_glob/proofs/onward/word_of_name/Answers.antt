use Rattle.std.proofs.Common.{◌∙◌, sym}
use Rattle.mx_glob.proofs.SearchLemmas.{HasWord-found}
use Rattle.mx_glob.proofs.onward.word_of_name.Goals as goal

pub returns-clause-word : goal.returns-clause-word
returns-clause-word c =
    let same = HasWord-found c.args.value.now c.args.name.now c.args.place c.find_onward.result c.requires.none
    c.find_onward.ensures.first in
    (λ yes. same.0 (sym c.is_some.ensures ∙ yes), λ word. c.is_some.ensures ∙ same.1 word)
