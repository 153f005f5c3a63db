use Rattle.std.proofs.Common.{◌≡◌, ◌∙◌, Some, None, refl, ap, subst, sym, slice_get}
use Rattle.std.specs.Option.{option_copied_mut}
use Rattle.indexmap.specs.IndexMap.{values, with_value_at}
use Rattle.mx_rule.specs.declared.list.RuleList.TheInside.{Inside}
use Rattle.mx_rule.specs.Editing.{changed_at, with_enabled}
use Rattle.mx_rule.proofs.ChangeLemmas.{changed_at-past, rules-set, set-IsListOf, IsListOf}
use Rattle.mx_rule.proofs.list.RuleList.set_enabled.Goals as goal
use Rattle.mx_rule.proofs.list.RuleList.set_enabled.Goals.{in-Some, in_default}

pub invariant_of-self : goal.invariant_of-self
invariant_of-self c =
    let kept = c.self.inside.rules in
    let index = c.args.index in
    let change = with_enabled c.args.enabled in
    let P : Inside → Type 0 = λ inside. IsListOf inside.rules.entries inside.own_override
    inside.own_other in
    elim c.match-get_index_mut.branch [
      | in-Some w ↦
          let rule = w.in-Some.rule.now in
          let at : slice_get (values kept) index ≡ Some rule = sym c.get_index_mut.ensures.value
          ∙ ap option_copied_mut w.in-Some.is in
          let is = w.self-inside-is ∙ (λ j. record {
            rules = with_value_at kept index (w.set_enabled.ensures j);
            own_override = c.self.inside.own_override;
            own_other = c.self.inside.own_other;
          }) in
          subst P (sym is) (set-IsListOf change (λ _. refl) (λ _. refl) (λ _. refl) kept.entries index rule
          c.self.inside.own_override c.self.inside.own_other at c.self.invariant)
      | in_default w ↦ subst P (sym w.self-inside-is) c.self.invariant
    ]

pub returns : goal.returns
returns c =
    let kept = c.self.inside.rules in
    let index = c.args.index in
    let change = with_enabled c.args.enabled in
    elim c.match-get_index_mut.branch [
      | in-Some w ↦
          let rule = w.in-Some.rule.now in
          let at : slice_get (values kept) index ≡ Some rule = sym c.get_index_mut.ensures.value
          ∙ ap option_copied_mut w.in-Some.is in
          let is = w.self-inside-is ∙ (λ j. record {
            rules = with_value_at kept index (w.set_enabled.ensures j);
            own_override = c.self.inside.own_override;
            own_other = c.self.inside.own_other;
          }) in
          ap (λ (inside : Inside). values inside.rules) is ∙ rules-set change kept.entries index rule at
          ∙ ap (changed_at index change) c.self.view_is
      | in_default w ↦
          let past : None ≡ slice_get (values kept) index = ap option_copied_mut (sym w.in_default.is)
          ∙ c.get_index_mut.ensures.value in
          ap (λ (inside : Inside). values inside.rules) w.self-inside-is
          ∙ changed_at-past change (values kept) index past ∙ ap (changed_at index change) c.self.view_is
    ]
