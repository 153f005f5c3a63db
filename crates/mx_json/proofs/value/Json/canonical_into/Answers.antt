use Rattle.std.proofs.Common.{◌≡◌, ◌++◌, ap, ap₂, ◌∙◌}
use Rattle.json.specs.Print.{print}
use Rattle.mx_json.specs.Canonical.{canonical}
use Rattle.mx_json.specs.Tokens.{tokens_of}
use Rattle.mx_json.proofs.CanonicalLemmas.{print-tokens_of}
use Rattle.mx_json.proofs.RoundTrip.{read_json-canonical}
use Rattle.mx_json.proofs.value.Json.canonical_into.Goals as goal

-- what a writer that began with no token printed
printed : (c : goal.In-Ok) → print c.write_value-written.new.writer.tokens ≡ canonical c.args.self.now
printed c = ap print (c.in-Ok.ensures.tokens ∙ ap (λ ts. ts ++ tokens_of c.args.self.now) c.new-writer.ensures.tokens)
    ∙ print-tokens_of c.args.self.now

pub returns-in-Ok-clause-ok : goal.returns-in-Ok-clause-ok
returns-in-Ok-clause-ok c =
    c.into_inner.ensures.items
    ∙ ap₂ (λ before text. before ++ text)
    (c.in-Ok.ensures.before ∙ c.new-writer.ensures.before ∙ ap (λ v. v.items) c.replace.ensures.value) (printed c)

pub returns-in-Ok-clause-reads_back : goal.returns-in-Ok-clause-reads_back
returns-in-Ok-clause-reads_back c = λ deepest within. read_json-canonical c.args.self.now deepest c.requires within

pub returns-in-Err-clause-reads_back : goal.returns-in-Err-clause-reads_back
returns-in-Err-clause-reads_back c = λ deepest within. read_json-canonical c.args.self.now deepest c.requires within
