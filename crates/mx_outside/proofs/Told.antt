-- Calls one after another: what is told through them, and how counts rise.
use Rattle.std.proofs.Common.{◌≡◌, ℕ, ◌≤◌, List, [], ◌++◌, Option, Some, None, refl, subst, ap, sym, ◌∙◌, append_assoc}
use Rattle.std.proofs.Common.{append-nil, arith}
use Rattle.mx_outside.specs.Told.{WhereTold, Writes, Rose}

-- What is told before is told after.
pub WhereTold-at : {A : Type 0} (P : A → A → Type 0) (old new : Option A) (x : A) → WhereTold old new P → old ≡ Some x
    → (y : A) × (new ≡ Some y) × P x y
WhereTold-at P None None x told is = cc
WhereTold-at P None (Some new) x told is = absurd told
WhereTold-at P (Some old) None x told is = absurd told
WhereTold-at P (Some old) (Some new) x told is =
    let same : old ≡ x = cc in (new, refl, subst (λ (v : _). P v new) same told)

-- Two calls one after another are told as one.
pub WhereTold-then : {A : Type 0} (P Q R : A → A → Type 0) (a b c : Option A) → WhereTold a b P → WhereTold b c Q
    → ((x y z : A) → P x y → Q y z → R x z) → WhereTold a c R
WhereTold-then P Q R None None None first second both = tt
WhereTold-then P Q R None None (Some z) first second both = absurd second
WhereTold-then P Q R None (Some y) c first second both = absurd first
WhereTold-then P Q R (Some x) None c first second both = absurd first
WhereTold-then P Q R (Some x) (Some y) None first second both = absurd second
WhereTold-then P Q R (Some x) (Some y) (Some z) first second both = both x y z first second

-- A count that rose and then didn't fall rose.
pub Rose-before_more : (a b c : ℕ) → Rose a b → b ≤ c → Rose a c
Rose-before_more a b c rose more = omega arith

-- A count that didn't fall and then rose rose.
pub Rose-after_more : (a b c : ℕ) → a ≤ b → Rose b c → Rose a c
Rose-after_more a b c more rose = omega arith

-- Where nothing was written, the same is told.
pub Writes-same : (told : Option (List ℕ)) (P : List ℕ → Type 0) → P [] → Writes told told P
Writes-same told P none = λ before is. ([], is ∙ ap Some (sym (append-nil before)), none)

-- Two writings one after another are one.
pub Writes-then : (a b c : Option (List ℕ)) (P Q R : List ℕ → Type 0) → Writes a b P → Writes b c Q
    → ((x y : List ℕ) → P x → Q y → R (x ++ y)) → Writes a c R
Writes-then a b c P Q R first second both = λ before is.
    let w = first before is in
    let v = second (before ++ w.0) w.1 in
    (w.0 ++ v.0, v.1 ∙ ap Some (append_assoc before w.0 v.0), both w.0 v.0 w.2 v.2)

-- What is told to be added at the end was written.
pub Writes-from_told : (old new : Option (List ℕ)) (P : List ℕ → Type 0)
    → WhereTold old new (λ before after. (out : List ℕ) × (after ≡ before ++ out) × P out) → Writes old new P
Writes-from_told old new P told = λ before is.
    let w = WhereTold-at (λ x y. (out : List ℕ) × (y ≡ x ++ out) × P out) old new before told is in
    (w.2.0, w.1 ∙ ap Some w.2.1, w.2.2)
