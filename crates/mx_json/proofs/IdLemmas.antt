-- The localpart of a local user, from the parts of its id.
use Rattle.std.proofs.Common.{◌≡◌, ◌≢◌, ℕ, true, false, List, [], ◌∷◌, ◌++◌, append_assoc, length-append, Option, Some}
use Rattle.std.proofs.Common.{None, MatchOption, Bor, arith, sym, ap, ◌∙◌, refl}
use Rattle.std.proofs.lemmas.List.{take_at, append_cancel_right}
use Rattle.std.proofs.lemmas.Bool.{and_right, false_from_ne_true}
use Rattle.std.proofs.lemmas.Slice.Eq.{bytes_eq-Decides}
use Rattle.std.specs.Str.{bytes_eq}
use Rattle.mx_json.specs.Ids.{is_localpart, local_user, localpart_of, part_before}

-- the localpart stands between the sigil and the `:`
part_before-local_user : (server part : List ℕ) → part_before server (local_user server part) ≡ part
part_before-local_user server part =
    take_at part (58 ∷ server) _ (omega (arith, length-append part (58 ∷ server)))

-- who isn't named by the server isn't local
pub localpart_of-remote : (server id : List ℕ) → ((part : List ℕ) → id ≢ local_user server part)
    → localpart_of server id ≡ None
unfolding localpart_of
localpart_of-remote server id differs =
    let part = part_before server id in
    let fails : bytes_eq id (local_user server part) ≡ false =
    false_from_ne_true _ (λ same. differs part ((bytes_eq-Decides id (local_user server part)).0 same)) in
    rw (and_right (is_localpart part) (bytes_eq id (local_user server part)) fails)

-- a local id has its localpart, where that is one
localpart_of-local_user : (server part : List ℕ) → is_localpart part ≡ true
    → localpart_of server (local_user server part) ≡ Some part
unfolding localpart_of
localpart_of-local_user server part holds =
    let same : bytes_eq (local_user server part) (local_user server part) ≡ true =
    (bytes_eq-Decides (local_user server part) (local_user server part)).1 refl in
    rw (part_before-local_user server part, holds, same)

localpart_of-no_localpart : (server part : List ℕ) → is_localpart part ≡ false
    → localpart_of server (local_user server part) ≡ None
unfolding localpart_of
localpart_of-no_localpart server part fails = rw (part_before-local_user server part, fails)

pub localpart_of-local : (server id part : List ℕ) → id ≡ local_user server part → is_localpart part ≡ true
    → localpart_of server id ≡ Some part
localpart_of-local server id part is holds = rw is (localpart_of-local_user server part holds)

pub localpart_of-other : (server id part : List ℕ) → id ≡ local_user server part → is_localpart part ≡ false
    → localpart_of server id ≡ None
localpart_of-other server id part is fails = rw is (localpart_of-no_localpart server part fails)

-- the parts of an id: the sigil, then a part that ends where the server's name begins
pub local_user-parts : (server id x y : List ℕ) (r : Option (Bor (List ℕ))) → id ≡ 64 ∷ x → x ≡ y ++ server
    → MatchOption r ((front : List ℕ) → y ≢ front ++ (58 ∷ [])) (λ z. y ≡ z.now ++ (58 ∷ []))
    → MatchOption r ((part : List ℕ) → id ≢ local_user server part) (λ part. id ≡ local_user server part.now)
local_user-parts server id x y None is ends h = λ part same.
    let tails : x ≡ part ++ 58 ∷ server = cc in
    h part
    (append_cancel_right y (part ++ (58 ∷ [])) server (sym ends ∙ (tails ∙ sym (append_assoc part (58 ∷ []) server))))
local_user-parts server id x y (Some z) is ends h =
    is ∙ ap (λ w. 64 ∷ w) (ends ∙ (ap (λ w. w ++ server) h ∙ append_assoc z.now (58 ∷ []) server))

-- a part that doesn't end where the server's name begins
pub remote_end : (server id x : List ℕ) → id ≡ 64 ∷ x → ((front : List ℕ) → x ≢ front ++ server) → (part : List ℕ)
    → id ≢ local_user server part
remote_end server id x is h part same =
    let tails : x ≡ part ++ 58 ∷ server = cc in
    h (part ++ (58 ∷ [])) (tails ∙ sym (append_assoc part (58 ∷ []) server))
