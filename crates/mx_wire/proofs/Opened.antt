-- That an exchange that was opened is open.
use Rattle.std.proofs.Common.{◌≡◌, ℕ, false, List, [], ◌∷◌, ◌++◌, length, Some, refl, ap, ◌∙◌}
use Rattle.mx_outside.specs.Link.{Entry, IsOpen, Opens, fresh, entry_at}
use Rattle.mx_outside.specs.declared.link.Opening.TheVariants as opening

last-entry : (log : List Entry) (e : Entry) → entry_at (log ++ e ∷ []) (length (log ++ e ∷ [])) ≡ Some e
last-entry [] e = refl
last-entry (first ∷ []) e = refl
last-entry (first ∷ second ∷ log) e = last-entry (second ∷ log) e

-- The exchange of the number that was answered is open.
pub opened_is_open : (number : ℕ) (address : List ℕ) (old new : List Entry)
    → Opens (opening.Opened number) address old new → IsOpen new number
opened_is_open number address old new opens =
    let e = fresh address false in
    record {
      entry = e;
      is = ap (entry_at new) opens.1 ∙ ap (λ (l : List Entry). entry_at l (length l)) opens.0 ∙ last-entry old e;
      opened = refl;
      going = refl;
    }
