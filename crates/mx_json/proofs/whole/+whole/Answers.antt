use Rattle.std.proofs.Common.{[], arith, ◌≡◌, inl, ◌∷◌, length, Ok, Some, sym, ap, ◌∙◌}
use Rattle.std.proofs.lemmas.Result.{err_from_is_err_and}
use Rattle.std.specs.Vec.Iter.{into_iter_items}
use Rattle.serde_json.specs.View.{items_view, members_view, number_view}
use Rattle.serde_json.proofs.Views.{Entry}
use Rattle.mx_json.specs.declared.value.Json.{Text, Whole}
use Rattle.mx_json.specs.Reading.{whole_items, whole_number_of, whole_pairs}
use Rattle.mx_json.proofs.WholeLemmas.{told_by_part, to_z-of_whole, whole_items-all, whole_items-more}
use Rattle.mx_json.proofs.WholeLemmas.{whole_items-stops, whole_json-Array, whole_json-Array_stops, whole_json-Bool}
use Rattle.mx_json.proofs.WholeLemmas.{whole_json-Null, whole_json-Number, whole_json-Object, whole_json-Object_stops}
use Rattle.mx_json.proofs.WholeLemmas.{whole_json-String, whole_json-no_whole, whole_pairs-all, whole_pairs-more}
use Rattle.mx_json.proofs.WholeLemmas.{whole_pairs-stops}
use Rattle.mx_json.proofs.whole.+whole.Goals as goal

pub whole_json-returns-in_err-whole_items-in-Array : goal.whole_json-returns-in_err-whole_items-in-Array
whole_json-returns-in_err-whole_items-in-Array t c =
    let p = err_from_is_err_and c.from_residual.result c.from_residual.ensures.1 in
    rw (p.1, p.2, c.in-Array.is)
    (told_by_part (whole_json-Array_stops c.in-Array.items _) c.in_err-whole_items-in-Array.ensures)

pub whole_json-returns-in_err-whole_pairs-in-Object : goal.whole_json-returns-in_err-whole_pairs-in-Object
whole_json-returns-in_err-whole_pairs-in-Object t c =
    let p = err_from_is_err_and c.from_residual-in_err-whole_pairs-in-Object.result
    c.from_residual-in_err-whole_pairs-in-Object.ensures.1 in
    rw (p.1, p.2, c.in-Object.is)
    (told_by_part (whole_json-Object_stops c.in-Object.members _) c.in_err-whole_pairs-in-Object.ensures)

pub whole_json-returns-in-Null : goal.whole_json-returns-in-Null
whole_json-returns-in-Null t c = rw c.in-Null.is whole_json-Null

pub whole_json-returns-in-Bool : goal.whole_json-returns-in-Bool
whole_json-returns-in-Bool t c = rw c.in-Bool.is (whole_json-Bool c.in-Bool.truth)

pub whole_json-returns-in-Some : goal.whole_json-returns-in-Some
whole_json-returns-in-Some t c =
    let n = c.in-Number.number in
    let is : whole_number_of (number_view n) ≡ Some c.in-Some.number = sym c.whole_number_of.ensures ∙ c.in-Some.is in
    rw c.in-Number.is (whole_json-Number n c.in-Some.number is
    ∙ ap (λ z. Ok (Whole z)) (sym (to_z-of_whole (number_view n) c.in-Some.number is)))

pub whole_json-returns-in-None : goal.whole_json-returns-in-None
whole_json-returns-in-None t c =
    inl (rw c.in-Number.is (whole_json-no_whole c.in-Number.number (sym c.whole_number_of.ensures ∙ c.in-None.is)))

pub whole_json-returns-in-String : goal.whole_json-returns-in-String
whole_json-returns-in-String t c =
    rw c.in-String.is (whole_json-String c.in-String.text ∙ ap (λ w. Ok (Text w)) (sym c.from_string.ensures))

pub whole_json-returns-in_ok-whole_items-in-Array : goal.whole_json-returns-in_ok-whole_items-in-Array
whole_json-returns-in_ok-whole_items-in-Array t c =
    rw c.in-Array.is (whole_json-Array c.in-Array.items _ c.in_ok-whole_items-in-Array.ensures)

pub whole_json-returns-in_ok-whole_pairs-in-Object : goal.whole_json-returns-in_ok-whole_pairs-in-Object
whole_json-returns-in_ok-whole_pairs-in-Object t c =
    rw c.in-Object.is (whole_json-Object c.in-Object.members _ c.in_ok-whole_pairs-in-Object.ensures)

pub whole_items-loop-item-init : goal.whole_items-loop-item-init
whole_items-loop-item-init t c =
    let gives = c.into_iter-item-iterator.ensures.into_iter_gives in (
      gives.1 ∙ (c.args.items.ok.0 ∙ ap length (sym gives.0)),
      rw c.new-done.ensures (ap (λ vs. whole_items [] (items_view vs)) (sym gives.0)),
    )

pub whole_items-returns-in_err-whole_json : goal.whole_items-returns-in_err-whole_json
whole_items-returns-in_err-whole_json t c =
    let p = err_from_is_err_and c.from_residual.result c.from_residual.ensures.1 in
    let rest = into_iter_items c.next.new.self in
    let left = c.in-Some.ensures.steps.0 in
    let here = c.loop-item.invariant.1 ∙ ap (λ vs. whole_items c.loop-item.done (items_view vs)) left in
    rw (p.1, p.2) (told_by_part (λ wrong. here ∙ whole_items-stops c.loop-item.done c.in-Some.item rest _ wrong)
    c.in_err-whole_json.ensures)

pub whole_items-loop-item-preserved : goal.whole_items-loop-item-preserved
whole_items-loop-item-preserved t c =
    let rest = into_iter_items c.next.new.self in
    let left = c.in-Some.ensures.steps.0 in
    let here = c.loop-item.invariant.1 ∙ ap (λ vs. whole_items c.loop-item.done (items_view vs)) left in (
      omega (arith, c.in-Some.ensures.steps.1, c.loop-item.invariant.0, ap length left),
      rw c.in_ok-push.ensures.ok
          (here ∙ whole_items-more c.loop-item.done c.in-Some.item rest _ c.in_ok-whole_json.ensures),
    )

pub whole_items-returns : goal.whole_items-returns
whole_items-returns t c =
    let none : length (into_iter_items c.loop-item.item-iterator) ≡ 0 =
    sym c.loop-item.invariant.0 ∙ c.in-None.ensures.steps.0 in
    c.loop-item.invariant.1 ∙ whole_items-all c.loop-item.done _ none

pub whole_pairs-returns-in_err-member : goal.whole_pairs-returns-in_err-member
whole_pairs-returns-in_err-member t c =
    let p = err_from_is_err_and c.from_residual.result c.from_residual.ensures.1 in
    let entry : Entry = (c.in-Some.key, c.in-Some.member) in
    let left : c.loop-key.key-iterator ≡ entry ∷ c.next.new.self = c.in-Some.ensures.steps in
    let here = c.loop-key.invariant ∙ ap (λ es. whole_pairs c.loop-key.done (members_view es)) left in
    rw (p.1, p.2) (told_by_part (λ wrong. here ∙ whole_pairs-stops c.loop-key.done entry c.next.new.self _ wrong)
    c.in_err-member.ensures)

pub whole_pairs-loop-key-preserved : goal.whole_pairs-loop-key-preserved
whole_pairs-loop-key-preserved t c =
    let entry : Entry = (c.in-Some.key, c.in-Some.member) in
    let left : c.loop-key.key-iterator ≡ entry ∷ c.next.new.self = c.in-Some.ensures.steps in
    let here = c.loop-key.invariant ∙ ap (λ es. whole_pairs c.loop-key.done (members_view es)) left in
    rw (c.in_ok-push.ensures.ok, c.from_string.ensures)
    (here ∙ whole_pairs-more c.loop-key.done entry c.next.new.self _ c.in_ok-member.ensures)

pub whole_pairs-returns : goal.whole_pairs-returns
whole_pairs-returns t c =
    c.loop-key.invariant ∙ (ap (λ es. whole_pairs c.loop-key.done (members_view es)) c.in-None.ensures.steps.0
    ∙ whole_pairs-all c.loop-key.done)
