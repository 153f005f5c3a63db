-- What a relation to a thread names is an event id.
use Rattle.std.proofs.Common.{◌≡◌, ℕ, Bool, true, false, cond, List, codes, Option, Some, None, refl, sym, ap, ◌∙◌}
use Rattle.std.specs.Option.{option_map_or}
use Rattle.std.specs.Str.{bytes_eq}
use Rattle.mx_json.specs.declared.value.Json.{Json}
use Rattle.mx_json.specs.Ids.{is_event_id}
use Rattle.mx_json.specs.Json.{member, text_at}
use Rattle.mx_event.specs.Event.{in_thread, to_another, to_nothing, content_of, relation_from, relation_in, relation_of}

named_by : (a b : Bool) (id root : List ℕ) → is_event_id id ≡ b
    → cond a (cond b (in_thread id) to_nothing) (to_another id) ≡ in_thread root → is_event_id root ≡ true
named_by true true id root is_id named = let same : id ≡ root = cc in ap is_event_id (sym same) ∙ is_id
named_by true false id root is_id named = absurd (cc)
named_by false b id root is_id named = absurd (cc)

relation_from-root : (kind id : Option (List ℕ)) (root : List ℕ) → relation_from kind id ≡ in_thread root
    → is_event_id root ≡ true
relation_from-root (Some kind) (Some id) root named =
    named_by (bytes_eq kind (codes "m.thread")) (is_event_id id) id root refl named
relation_from-root (Some kind) None root named = absurd (cc)
relation_from-root None id root named = absurd (cc)

relation_in-root : (relates_to : Option Json) (root : List ℕ)
    → option_map_or relation_in relates_to to_nothing ≡ in_thread root → is_event_id root ≡ true
relation_in-root (Some json) root named =
    relation_from-root (text_at (codes "rel_type") json) (text_at (codes "event_id") json) root named
relation_in-root None root named = absurd (cc)

pub relation_of-root : (event : Json) (root : List ℕ) → relation_of event ≡ in_thread root → is_event_id root ≡ true
unfolding relation_of
relation_of-root event root named = relation_in-root (member (codes "m.relates_to") (content_of event)) root named
