-- The conditions and actions of the table are valid JSON, and its conditions are conditions.
use Rattle.std.proofs.Common.{◌≡◌, ◌∙◌, ℕ, nat_lt, Bool, true, false, not, List, [], ◌∷◌, length, codes, Some, is_some}
use Rattle.std.proofs.Common.{option_map, option_and_then, Ok, Err, if◌then◌else◌, refl, sym, ap, ap₂, subst, rules}
use Rattle.std.specs.List.{list_all}
use Rattle.std.specs.Str.{is_utf8}
use Rattle.std.specs.Result.{result_ok}
use Rattle.std.proofs.lemmas.Bool.{and_from, and_parts}
use Rattle.mx_json.specs.declared.value.Json.{Json, Truth, Text, Object, the_lemmas}
use Rattle.mx_json.specs.Folded.{folded}
use Rattle.mx_json.specs.Json.{is_valid, member, member_in, text_at, text_of}
use Rattle.mx_json.proofs.ObjectLemmas.{is_fit, is_fit-Text, is_fit-Truth, is_utf8-ascii, is_valid-ascii}
use Rattle.mx_json.proofs.ObjectLemmas.{is_valid-Object}
use Rattle.mx_json.specs.Path.{segments}
use Rattle.mx_glob.specs.FoldedPattern.{folded_pattern}
use Rattle.mx_glob.specs.declared.error.GlobError.TheVariants.{PatternTooLong}
use Rattle.mx_cond.specs.Condition.{is_condition, plain_of, wanted_by, wanted_of_kind, with_both}
use Rattle.mx_cond.specs.MemberCount.{count_asked}
use Rattle.mx_cond.specs.declared.plain.Plain.{Plain}
use Rattle.mx_cond.specs.declared.plain.Plain.TheVariants.{Text as PlainText, Truth as PlainTruth}
use Rattle.mx_cond.specs.declared.wanted.Wanted.TheVariants.{EventMatch, EventPropertyIs, EventPropertyContains}
use Rattle.mx_cond.specs.declared.wanted.Wanted.TheVariants.{RoomMemberCount, SenderNotificationPermission}
use Rattle.mx_rule.specs.Predefined.{contains_display_name, event_match, event_property_contains, event_property_is}
use Rattle.mx_rule.specs.Predefined.{highlight, may_notify_room, room_member_count, sound}
use Rattle.mx_defaults.specs.declared.row.Asked.{Asked}
use Rattle.mx_defaults.specs.declared.row.Asked.TheVariants.{Matches, MatchesOwner, ContainsOwner, IsText, IsTrue}
use Rattle.mx_defaults.specs.declared.row.Asked.TheVariants.{Members, MayNotifyRoom, NamesOwner}
use Rattle.mx_defaults.specs.declared.row.Does.{Does}
use Rattle.mx_defaults.specs.declared.row.Does.TheVariants.{Notify, Sound, Highlight}
use Rattle.mx_defaults.specs.Row.{action_done, actions_of, are_sayable, condition_of, is_ascii_text, is_readable}
use Rattle.mx_defaults.specs.Row.{is_sayable, is_pattern_text}

-- ---- validity

-- a pair of an ASCII key, and a text
member-text : (key text : List ℕ) → is_ascii_text key ≡ true → is_utf8 text ≡ true → is_fit (key, Text text) ≡ true
member-text key text is utf8 = is_fit-Text key text (is_utf8-ascii key is) utf8

-- of an ASCII key, and an ASCII text
member-ascii : (key text : List ℕ) → is_ascii_text key ≡ true → is_ascii_text text ≡ true
    → is_fit (key, Text text) ≡ true
member-ascii key text is text_is = member-text key text is (is_utf8-ascii text text_is)

one-has : (a : List ℕ × Json) → is_fit a ≡ true → list_all is_fit (a ∷ []) ≡ true
one-has a is = and_from _ _ is refl

two-have : (a b : List ℕ × Json) → is_fit a ≡ true → is_fit b ≡ true → list_all is_fit (a ∷ b ∷ []) ≡ true
two-have a b one two = and_from _ _ one (one-has b two)

three-have : (a b c : List ℕ × Json) → is_fit a ≡ true → is_fit b ≡ true → is_fit c ≡ true
    → list_all is_fit (a ∷ b ∷ c ∷ []) ≡ true
three-have a b c one two three = and_from _ _ one (two-have b c two three)

match-valid : (key pattern : List ℕ) → is_ascii_text key ≡ true → is_utf8 pattern ≡ true
    → is_valid (event_match key pattern) ≡ true
match-valid key pattern k p =
    let has = three-have _ _ _ (member-ascii (codes "key") key refl k)
    (member-ascii (codes "kind") (codes "event_match") refl refl) (member-text (codes "pattern") pattern refl p) in
    is_valid-Object _ refl has

contains-valid : (key text : List ℕ) → is_ascii_text key ≡ true → is_utf8 text ≡ true
    → is_valid (event_property_contains key (Text text)) ≡ true
contains-valid key text k t =
    let has = three-have _ _ _ (member-ascii (codes "key") key refl k) (member-ascii (codes "kind")
    (codes "event_property_contains") refl refl) (member-text (codes "value") text refl t) in
    is_valid-Object _ refl has

is_text-valid : (key text : List ℕ) → is_ascii_text key ≡ true → is_utf8 text ≡ true
    → is_valid (event_property_is key (Text text)) ≡ true
is_text-valid key text k t =
    let has = three-have _ _ _ (member-ascii (codes "key") key refl k)
    (member-ascii (codes "kind") (codes "event_property_is") refl refl) (member-text (codes "value") text refl t) in
    is_valid-Object _ refl has

is_true-valid : (key : List ℕ) → is_ascii_text key ≡ true → is_valid (event_property_is key (Truth true)) ≡ true
is_true-valid key k =
    let value = is_fit-Truth (codes "value") true (is_utf8-ascii (codes "value") refl) in
    let has = three-have _ _ _ (member-ascii (codes "key") key refl k)
    (member-ascii (codes "kind") (codes "event_property_is") refl refl) value in
    is_valid-Object _ refl has

count-valid : (number : List ℕ) → is_ascii_text number ≡ true → is_valid (room_member_count number) ≡ true
count-valid number n =
    let has = two-have _ _ (member-ascii (codes "is") number refl n)
    (member-ascii (codes "kind") (codes "room_member_count") refl refl) in
    is_valid-Object _ refl has

may_notify_room-valid : is_valid may_notify_room ≡ true
may_notify_room-valid =
    let has = two-have _ _ (member-ascii (codes "key") (codes "room") refl refl)
    (member-ascii (codes "kind") (codes "sender_notification_permission") refl refl) in
    is_valid-Object _ refl has

display_name-valid : is_valid contains_display_name ≡ true
display_name-valid =
    let has = one-has _ (member-ascii (codes "kind") (codes "contains_display_name") refl refl) in
    is_valid-Object _ refl has

pub condition_of-valid : (owner : List ℕ) (asked : Asked) → is_utf8 owner ≡ true → is_readable owner asked ≡ true
    → is_valid (condition_of owner asked) ≡ true
condition_of-valid owner (Matches key pattern) utf8 is =
    let parts =
    and_parts (is_ascii_text key.now) (is_ascii_text pattern.now) (and_parts (is_pattern_text pattern.now) _ is).1 in
    match-valid key.now pattern.now parts.0 (is_utf8-ascii pattern.now parts.1)
condition_of-valid owner (MatchesOwner key) utf8 is =
    match-valid key.now owner (and_parts (is_pattern_text owner) (is_ascii_text key.now) is).1 utf8
condition_of-valid owner (ContainsOwner key) utf8 is = contains-valid key.now owner is utf8
condition_of-valid owner (IsText key text) utf8 is =
    let parts = and_parts (is_ascii_text key.now) (is_ascii_text text.now) is in
    is_text-valid key.now text.now parts.0 (is_utf8-ascii text.now parts.1)
condition_of-valid owner (IsTrue key) utf8 is = is_true-valid key.now is
condition_of-valid owner (Members number) utf8 is = count-valid number.now is
condition_of-valid owner MayNotifyRoom utf8 is = may_notify_room-valid
condition_of-valid owner NamesOwner utf8 is = display_name-valid

sound-valid : (name : List ℕ) → is_ascii_text name ≡ true → is_valid (sound name) ≡ true
sound-valid name n =
    let has = two-have _ _ (member-ascii (codes "set_tweak") (codes "sound") refl refl)
    (member-ascii (codes "value") name refl n) in
    is_valid-Object _ refl has

highlight-valid : is_valid highlight ≡ true
highlight-valid =
    let has = one-has _ (member-ascii (codes "set_tweak") (codes "highlight") refl refl) in
    is_valid-Object _ refl has

action_of-valid : (does : Does) → is_sayable does ≡ true → is_valid (action_done does) ≡ true
action_of-valid Notify is = is_valid-ascii (codes "notify") refl
action_of-valid (Sound name) is = sound-valid name.now is
action_of-valid Highlight is = highlight-valid

pub actions_of-valid : (does : List Does) → are_sayable does ≡ true → list_all is_valid (actions_of does) ≡ true
actions_of-valid [] is = refl
actions_of-valid (first ∷ does) is =
    let parts = and_parts (is_sayable first) (are_sayable does) is in
    and_from (is_valid (action_done first)) (list_all is_valid (actions_of does)) (action_of-valid first parts.0)
    (actions_of-valid does parts.1)

not-true : (b : Bool) → not b ≡ true → b ≡ false
not-true false h = refl
not-true true h = cc

short : (text : List ℕ) → is_pattern_text text ≡ true → nat_lt 1024 (length text) ≡ false
short text is = not-true _ is

-- the members of an object
member-is : (key : List ℕ) (pairs : List (List ℕ × Json))
    → member key (Object record { pairs = pairs }) ≡ member_in key pairs
member-is key pairs = search (rules, the_lemmas)

text-is : (text : List ℕ) → text_of (Text text) ≡ Some text
text-is text = search (rules, the_lemmas)

-- a text among the members of an object
text_at-is : (key : List ℕ) (pairs : List (List ℕ × Json)) (text : List ℕ) → member_in key pairs ≡ Some (Text text)
    → text_at key (Object record { pairs = pairs }) ≡ Some text
text_at-is key pairs text is = ap (option_and_then text_of) (member-is key pairs ∙ is) ∙ text-is text

-- ---- each kind of condition

-- what is wanted by an object with this kind
wanted_by-kind : (pairs : List (List ℕ × Json)) (kind : List ℕ) → member_in (codes "kind") pairs ≡ Some (Text kind)
    → wanted_by (Object record { pairs = pairs }) ≡ wanted_of_kind kind (Object record { pairs = pairs })
unfolding wanted_by
wanted_by-kind pairs kind is =
    ap (option_and_then (λ kind. wanted_of_kind kind (Object record { pairs = pairs })))
    (text_at-is (codes "kind") pairs kind is)

event_match-is : (key pattern : List ℕ) → is_pattern_text pattern ≡ true → is_condition (event_match key pattern) ≡ true
unfolding wanted_of_kind
event_match-is key pattern is =
    let pairs : List (List ℕ × Json) =
    (codes "key", Text key) ∷ (codes "kind", Text (codes "event_match")) ∷ (codes "pattern", Text pattern) ∷ [] in
    let P : Bool → Type 0 =
    λ is_long. result_ok (if is_long then Err PatternTooLong else Ok (folded pattern)) ≡ Some (folded pattern) in
    let read : result_ok (folded_pattern pattern) ≡ Some (folded pattern) = subst P (sym (short pattern is)) refl in
    let path = ap (option_map segments) (text_at-is (codes "key") pairs key refl) in
    let glob = ap (option_and_then (λ text. result_ok (folded_pattern text)))
    (text_at-is (codes "pattern") pairs pattern refl) ∙ read in
    ap is_some (wanted_by-kind pairs (codes "event_match") refl ∙ ap₂ (with_both EventMatch) path glob)

property_is-is : (key : List ℕ) (value : Json) (plain : Plain) → plain_of value ≡ Some plain
    → is_condition (event_property_is key value) ≡ true
unfolding wanted_of_kind
property_is-is key value plain is =
    let pairs : List (List ℕ × Json) =
    (codes "key", Text key) ∷ (codes "kind", Text (codes "event_property_is")) ∷ (codes "value", value) ∷ [] in
    let path = ap (option_map segments) (text_at-is (codes "key") pairs key refl) in
    let found = ap (option_and_then plain_of) (member-is (codes "value") pairs) ∙ is in
    ap is_some (wanted_by-kind pairs (codes "event_property_is") refl ∙ ap₂ (with_both EventPropertyIs) path found)

property_contains-is : (key : List ℕ) (value : Json) (plain : Plain) → plain_of value ≡ Some plain
    → is_condition (event_property_contains key value) ≡ true
unfolding wanted_of_kind
property_contains-is key value plain is =
    let pairs : List (List ℕ × Json) =
    (codes "key", Text key) ∷ (codes "kind", Text (codes "event_property_contains")) ∷ (codes "value", value) ∷ [] in
    let path = ap (option_map segments) (text_at-is (codes "key") pairs key refl) in
    let found = ap (option_and_then plain_of) (member-is (codes "value") pairs) ∙ is in
    ap is_some
    (wanted_by-kind pairs (codes "event_property_contains") refl ∙ ap₂ (with_both EventPropertyContains) path found)

member_count-is : (number : List ℕ) → is_condition (room_member_count number) ≡ true
unfolding wanted_of_kind
member_count-is number =
    let pairs : List (List ℕ × Json) =
    (codes "is", Text number) ∷ (codes "kind", Text (codes "room_member_count")) ∷ [] in
    ap is_some (wanted_by-kind pairs (codes "room_member_count") refl
    ∙ ap (option_map (λ is. RoomMemberCount (count_asked is))) (text_at-is (codes "is") pairs number refl))

may_notify_room-is : is_condition may_notify_room ≡ true
unfolding wanted_of_kind
may_notify_room-is =
    let pairs : List (List ℕ × Json) =
    (codes "key", Text (codes "room")) ∷ (codes "kind", Text (codes "sender_notification_permission")) ∷ [] in
    ap is_some (wanted_by-kind pairs (codes "sender_notification_permission") refl
    ∙ ap (option_map (λ key. SenderNotificationPermission key)) (text_at-is (codes "key") pairs (codes "room") refl))

display_name-is : is_condition contains_display_name ≡ true
unfolding wanted_of_kind
display_name-is = ap is_some
    (wanted_by-kind ((codes "kind", Text (codes "contains_display_name")) ∷ []) (codes "contains_display_name") refl)

plain-text : (text : List ℕ) → plain_of (Text text) ≡ Some (PlainText text)
plain-text text = search (rules, the_lemmas)

plain-true : plain_of (Truth true) ≡ Some (PlainTruth true)
plain-true = search (rules, the_lemmas)

pub condition_of-is : (owner : List ℕ) (asked : Asked) → is_readable owner asked ≡ true
    → is_condition (condition_of owner asked) ≡ true
condition_of-is owner (Matches key pattern) readable =
    event_match-is key.now pattern.now (and_parts (is_pattern_text pattern.now) _ readable).0
condition_of-is owner (MatchesOwner key) readable =
    event_match-is key.now owner (and_parts (is_pattern_text owner) _ readable).0
condition_of-is owner (ContainsOwner key) readable =
    property_contains-is key.now (Text owner) (PlainText owner) (plain-text owner)
condition_of-is owner (IsText key text) readable =
    property_is-is key.now (Text text.now) (PlainText text.now) (plain-text text.now)
condition_of-is owner (IsTrue key) readable = property_is-is key.now (Truth true) (PlainTruth true) plain-true
condition_of-is owner (Members number) readable = member_count-is number.now
condition_of-is owner MayNotifyRoom readable = may_notify_room-is
condition_of-is owner NamesOwner readable = display_name-is
