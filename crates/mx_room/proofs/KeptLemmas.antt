-- What a hash map with text keys stands for as a map from texts.
use Rattle.std.proofs.Common.{◌≡◌, ℕ, ◌≤◌, true, false, cond, List, [], ◌∷◌, length, map, Option, Some, None, refl, sym}
use Rattle.std.proofs.Common.{ap, ◌∙◌, subst, arith}
use Rattle.std.specs.declared.string.String.{String}
use Rattle.std.specs.Cmp.Lexicographic.{slice_cmp, nat_list_cmp_total}
use Rattle.std.specs.FinMap.{empty, find, get, insert, len, get-from_entries}
use Rattle.std.specs.Map.{lookup}
use Rattle.std.specs.Ordering.{nat_cmp}
use Rattle.std.specs.Str.{bytes_eq}
use Rattle.std.specs.String.{string_bytes, string_eq}
use Rattle.std.proofs.lemmas.List.{length-map}
use Rattle.std.proofs.lemmas.Map.Entries.{place_from_lookup}
use Rattle.mx_json.specs.declared.value.Json.{Json}
use Rattle.mx_room.specs.Change.{with_member}
use Rattle.mx_room.specs.Kept.{by_bytes, by_text}
use Rattle.mx_room.specs.Members.{joined_where}
use Rattle.mx_room.specs.State.{RoomState, last_of, room_of, state_of}
use Rattle.mx_room.specs.Texts.{Texts, table}
use Rattle.mx_room.specs.declared.member.Member.{Member}
use Rattle.mx_room.proofs.JoinedLemmas.{joined-le}
use Rattle.mx_room.proofs.TextsLemmas.{bytes_eq-flip, bytes_eq-same, get-put, len-entries_le, same_texts, ties}

module _ {A X : Type 0} where
  -- what entries have at a text
  abbrev pub at_text : List (String A × X) → List ℕ → Option X
  at_text entries q = lookup (λ key. bytes_eq q (string_bytes key)) entries

  find-by_bytes : (entries : List (String A × X)) (q : List ℕ)
      → find (slice_cmp nat_cmp) q (map by_bytes entries) ≡ at_text entries q
  find-by_bytes [] q = refl
  find-by_bytes (entry ∷ entries) q = rw (ties q (string_bytes entry.0), find-by_bytes entries q)

  pub get-by_text : (entries : List (String A × X)) (q : List ℕ) → get (by_text entries) q ≡ at_text entries q
  unfolding by_text
  get-by_text entries q = get-from_entries nat_list_cmp_total (map by_bytes entries) q ∙ find-by_bytes entries q

  pub by_text-put : (old new : List (String A × X)) (o : List ℕ) (x : X)
      → ((q : List ℕ) → at_text new q ≡ cond (bytes_eq o q) (Some x) (at_text old q))
      → by_text new ≡ insert (by_text old) o x
  by_text-put old new o x puts =
      same_texts (by_text new) (insert (by_text old) o x) (λ q.
      get-by_text new q ∙ puts q
      ∙ ap (λ b. cond b (Some x) (at_text old q)) (bytes_eq-flip o q)
      ∙ ap (cond (bytes_eq q o) (Some x)) (sym (get-by_text old q))
      ∙ sym (get-put (by_text old) o x q))

  found_alike : (old new : List (String A × X)) (q : List ℕ)
      → ((key : String A) → lookup (string_eq key) new ≡ lookup (string_eq key) old) → (key : String A)
      → bytes_eq q (string_bytes key) ≡ true → at_text new q ≡ at_text old q
  found_alike old new q alike key is =
      subst (λ (text : List ℕ). at_text new text ≡ at_text old text) (sym (bytes_eq-same q (string_bytes key) is))
      (alike key)

  alike_at : (old new : List (String A × X)) (q : List ℕ)
      → ((key : String A) → lookup (string_eq key) new ≡ lookup (string_eq key) old) → (a b : Option X)
      → at_text old q ≡ a → at_text new q ≡ b → at_text new q ≡ at_text old q
  alike_at old new q alike None None none none_2 = none_2 ∙ sym none
  alike_at old new q alike (Some x) b some b_is =
      let place = place_from_lookup (λ key. bytes_eq q (string_bytes key)) old x some in
      found_alike old new q alike place.1 place.3
  alike_at old new q alike None (Some x) none some =
      let place = place_from_lookup (λ key. bytes_eq q (string_bytes key)) new x some in
      found_alike old new q alike place.1 place.3

  pub by_text-reordered : (old new : List (String A × X))
      → ((key : String A) → lookup (string_eq key) new ≡ lookup (string_eq key) old) → by_text new ≡ by_text old
  by_text-reordered old new alike =
      same_texts (by_text new) (by_text old) (λ q.
      get-by_text new q ∙ alike_at old new q alike (at_text old q) (at_text new q) refl refl ∙ sym (get-by_text old q))

  pub len-by_text : (entries : List (String A × X)) → len (by_text entries) ≤ length entries
  unfolding by_text
  len-by_text entries = omega (arith, len-entries_le (map by_bytes entries), length-map entries by_bytes)

pub by_text-empty : (A X : Type 0) → by_text {A = A} {X = X} [] ≡ empty
unfolding by_text
by_text-empty A X = refl

-- what is said of a user, after something was said of this one
pub member_here : (set : Option (List ℕ × Member)) (named user : List ℕ) (member : Member) (members : Texts Member)
    → Some (named, member) ≡ set → true ≡ bytes_eq named user → Some member ≡ get (with_member set members) user
member_here set named user member members is here =
    rw (← is, get-put members named member user, bytes_eq-flip user named, ← here)

pub member_elsewhere : (set : Option (List ℕ × Member)) (named user : List ℕ) (member : Member) (members : Texts Member)
    → Some (named, member) ≡ set → false ≡ bytes_eq named user → get members user ≡ get (with_member set members) user
member_elsewhere set named user member members is apart =
    rw (← is, get-put members named member user, bytes_eq-flip user named, ← apart)

-- ---- a room of which nothing is known

pub no_joined : {A : Type 0} (entries : List (String A × Member)) → entries ≡ []
    → 0 ≡ len (joined_where (λ _. true) (by_text entries))
no_joined entries none =
    omega (arith, joined-le (λ _. true) (by_text entries), len-by_text entries, ap length none)

pub room_of-none : {A : Type 0} (entries : List (String A × Member)) (powers : Option Json) → entries ≡ []
    → powers ≡ None
    → ◌≡◌ {A = RoomState} (record { members = by_text entries; powers = powers; creator = None }) (room_of [])
unfolding by_text room_of state_of last_of table
room_of-none entries powers none unset = rw (none, unset)
