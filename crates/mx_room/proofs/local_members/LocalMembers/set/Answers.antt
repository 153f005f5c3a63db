use Rattle.std.proofs.Common.{◌≡◌, [], ◌∷◌, ◌++◌, Bool, cond, rules, sym, subst, ap, ◌∙◌}
use Rattle.std.specs.List.{IsDistinct, filter, list_any}
use Rattle.std.specs.Str.{bytes_eq}
use Rattle.std.proofs.lemmas.Fn.{filter_same}
use Rattle.mx_room.specs.Kept.{KeptUsers}
use Rattle.mx_room.proofs.ListingLemmas.{any-put_back, any-taken_out, distinct-put_back, distinct-taken_out, is_other}
use Rattle.mx_room.proofs.local_members.LocalMembers.set.Goals as goal
use Rattle.mx_room.proofs.local_members.LocalMembers.set.Goals.{After-drop-user-inside, In-Ok}

put_back : (c : In-Ok)
    → c.push.new.self.items ≡ filter (is_other c.args.user) c.self.inside.users.items ++ c.args.user ∷ []
put_back c =
    let left : c.retain.new.self.items ≡ filter (is_other c.args.user) c.self.inside.users.items
    = filter_same _ _ _ (λ x b f' k. search rules) _ _ c.retain.ensures.filtered in
    c.in-Ok.ensures.items ∙ ap (λ users. users ++ c.args.user ∷ []) left

taken_out : (c : After-drop-user-inside)
    → c.retain.new.self.items ≡ filter (is_other c.args.user) c.self.inside.users.items
taken_out c = filter_same _ _ _ (λ x b f' k. search rules) _ _ c.retain.ensures.filtered

pub invariant_of-self : goal.invariant_of-self
invariant_of-self c =
    subst (IsDistinct bytes_eq) (sym (put_back c))
    (distinct-put_back c.args.user c.self.inside.users.items c.self.invariant)

pub invariant_of-self-else-joined : goal.invariant_of-self-else-joined
invariant_of-self-else-joined c =
    subst (IsDistinct bytes_eq) (sym (taken_out c))
    (distinct-taken_out c.args.user c.self.inside.users.items c.self.invariant)

pub returns-in-Ok : goal.returns-in-Ok
returns-in-Ok c = λ q.
    ap (list_any (bytes_eq q)) (put_back c) ∙ any-put_back c.args.user c.self.inside.users.items q
    ∙ ap (λ (b : Bool). cond (bytes_eq q c.args.user) b (list_any (bytes_eq q) c.self.inside.users.items))
    (sym c.if-joined.true)
    ∙ ap (λ (kept : KeptUsers). cond (bytes_eq q c.args.user) c.args.joined (list_any (bytes_eq q) kept.users))
    c.self.view_is

pub returns-else-joined : goal.returns-else-joined
returns-else-joined c = λ q.
    ap (list_any (bytes_eq q)) (taken_out c) ∙ any-taken_out c.args.user c.self.inside.users.items q
    ∙ ap (λ (b : Bool). cond (bytes_eq q c.args.user) b (list_any (bytes_eq q) c.self.inside.users.items))
    (sym c.if-joined.false)
    ∙ ap (λ (kept : KeptUsers). cond (bytes_eq q c.args.user) c.args.joined (list_any (bytes_eq q) kept.users))
    c.self.view_is
