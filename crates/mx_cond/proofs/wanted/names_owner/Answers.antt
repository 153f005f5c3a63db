use Rattle.std.proofs.Common.{◌↔◌, ◌≢◌, Bool, [], IsTrue, Some}
use Rattle.std.proofs.lemmas.Bool.{both_ways}
use Rattle.std.proofs.lemmas.Result.{IfOk-weaker}
use Rattle.mx_json.specs.Folded.{folded}
use Rattle.mx_glob.specs.Words.{HasWord}
use Rattle.mx_cond.specs.Holds.{NamesOwner}
use Rattle.mx_cond.proofs.TextLemmas.{NamesOwner-named}
use Rattle.mx_cond.proofs.wanted.names_owner.Goals as goal

pub returns : goal.returns
returns c =
    let event = c.args.event.now in
    let name = c.in-Some.name.now in
    let body = c.in-Some-body_of.body.now in
    let some : name ≢ [] = λ nil. both_ways _ c.if-is_empty.false (rw nil at c.is_empty.ensures) in
    let same = NamesOwner-named event name body (c.in-Some-body_of.ensures {u = tt}) some in
    let found : Bool → Type 0 = λ m. IsTrue m ↔ HasWord (folded name) (folded body) in
    let named : Bool → Type 0 = λ m. IsTrue m ↔ NamesOwner (Some name) event in
    let told : (m : Bool) → found m → named m = λ m h. (λ yes. same.0 (h.0 yes), λ is. h.1 (same.1 is)) in
    rw c.in-Some.is (IfOk-weaker _ found named told c.name_of_text.ensures.word)
