use Rattle.std.proofs.Common.{◌≡◌, ℕ, ◌+◌, ◌<◌, ◌≤◌, T, ◌⊎◌, List, refl, sym, ap, ◌∙◌, subst, inl, inr, ⊎_elim, arith}
use Rattle.std.proofs.lemmas.Bool.{cases_eq, not-true}
use Rattle.std.proofs.lemmas.Map.Keys.{ge_from_not_lt}
use Rattle.facts.specs.Sets.{has}
use Rattle.facts.proofs.Tests.{from_true, not_both}
use Rattle.costs.specs.Estimates.{Estimate}
use Rattle.tables.specs.Equation.{offer_of}
use Rattle.tables.specs.Nets.{pairs, place_of}
use Rattle.tables.specs.Origins.{setting_in}
use Rattle.tables.specs.Reading.{Two, Top, estimate_by_pairs}
use Rattle.tables.proofs.Order.{laws_of}
use Rattle.tables.proofs.Tops.{pairs_top, top_sole}
use Rattle.tables.proofs.TwoFacts.{with_first, with_last, with_never, with_headless, with_lowers, with_broken, needs_kept, besides_top, target_estimate}
use Rattle.tables.proofs.two.TwoLayout.take.Goals as goal

-- the facts from a on that come before r, and one more
abbrev Upto : ℕ → ℕ → ℕ → Type 0
Upto a r x = (a ≤ x) × (x < r)

one_more : (a r s x : ℕ) → s ≡ r + 1 → Upto a s x → Upto a r x ⊎ (x ≡ r)
one_more a r s x is h = ⊎_elim (λ e. inr e) (λ ne. inl (h.0, omega (arith, h.1, ne, is))) (cases_eq x r)

pub returns-then-is_empty : goal.returns-then-is_empty
returns-then-is_empty g c = λ j at.
    let laws = laws_of g.V.Tally g.met.V.Tally.lawful in
    let b = setting_in c.args.origin.now in
    let m = c.args.m.now in
    let val = place_of (pairs g.V.Tally b) c.args.table.now in
    let others = c.concerned-others.result in
    let a = others.start in
    let empty = ge_from_not_lt others.start others.end (not-true _ (sym c.is_empty.ensures ∙ c.if-is_empty.true)) in
    let all = with_last laws b c.args.settled j m at val (Upto a a)
    (λ x l unbroken touched. let i = (c.concerned-others.ensures.told x l unbroken).1 touched in absurd (omega (arith, i.0, i.1, empty))) in
    let none = with_first laws b c.args.settled j m at val (Upto a a) (λ x h. omega (arith, h.0, h.1)) in
    record { runs = λ done floor r. all.runs done floor (none.runs done floor r) }

pub returns-then-is_within : goal.returns-then-is_within
returns-then-is_within g c = λ j at.
    let b = setting_in c.args.origin.now in
    with_headless (laws_of g.V.Tally g.met.V.Tally.lawful) b c.args.settled j c.args.m.now at (place_of (pairs g.V.Tally b) c.args.table.now)
    (λ f h. absurd (not_both ((c.is_within.ensures.0 c.if-is_within.true) f (subst T (sym (c.without-heads.ensures f)) h)) (c.empty.ensures f)))

pub returns-in-None : goal.returns-in-None
returns-in-None g c = λ j at.
    let laws = laws_of g.V.Tally g.met.V.Tally.lawful in
    let b = setting_in c.args.origin.now in
    let m = c.args.m.now in
    let val = place_of (pairs g.V.Tally b) c.args.table.now in
    with_never laws b c.args.settled j m at val (sym (top_sole laws c.highest_pair-base.ensures (pairs_top laws val m.needs)) ∙ c.in-None.is)

pub loop-r-init : goal.loop-r-init
loop-r-init g c = (
  c.highest_pair-base.ensures,
  (omega arith, refl),
  λ j at.
      let a = c.into_iter-r-iterator.result.start in
      let b = setting_in c.args.origin.now in
      with_first (laws_of g.V.Tally g.met.V.Tally.lawful) b c.args.settled j c.args.m.now at (place_of (pairs g.V.Tally b) c.args.table.now) (Upto a a) (λ x h. omega (arith, h.0, h.1)),
)

pub with_beside-requires : goal.with_beside-requires
with_beside-requires g c = c.loop-r.invariant.0

pub loop-r-preserved-then-not-has : goal.loop-r-preserved-then-not-has
loop-r-preserved-then-not-has g c =
    let tally = g.V.Tally in
    let laws = laws_of tally g.met.V.Tally.lawful in
    let b = setting_in c.args.origin.now in
    let m = c.args.m.now in
    let settled = c.args.settled in
    let r = c.in-Some.r in
    let told = c.in-Some.ensures.steps in
    let others = c.concerned-others.result in
    let same = c.into_iter-r-iterator.ensures.into_iter_gives in
    let kept_range = c.loop-r.invariant.1 in
    let a = c.into_iter-r-iterator.result.start in
    let before = c.loop-r.r-iterator.start in
    let after = c.next.new.self.start in
    let at_table : List (Estimate g.row.V.Denot) → Two → Estimate g.row.V.Denot = place_of (pairs tally b) in
    let val = at_table c.loop-r.table in
    let new = c.lower_pairs.new.table in
    let made = c.without-heads.result in
    let offer = c.offer-offer.result in
    let starts : a ≡ others.start = ap (λ k. k.start) same in
    let ends : c.into_iter-r-iterator.result.end ≡ others.end = ap (λ k. k.end) same in
    let whole : T (has m.breaks r) → ⊥ = λ h. not_both h (sym c.has.ensures ∙ c.if-not-has.true) in
    let touched = (c.concerned-others.ensures.told r (omega (arith, told, kept_range, ends, c.concerned-others.ensures.within)) whole).0 (omega (arith, told, kept_range, starts), omega (arith, told, kept_range, ends)) in
    let is = c.offer-offer.ensures ∙ ap (offer_of tally b m) (top_sole laws c.with_beside.ensures (besides_top laws val m r) ∙ sym (target_estimate laws val m r)) in
    let kept = needs_kept laws b m r _ val (at_table new) offer is c.lower_pairs.ensures in
    let base_was : c.highest_pair-base.result ≡ estimate_by_pairs tally val m.needs = top_sole laws c.loop-r.invariant.0 (pairs_top laws val m.needs) in (
      subst (Top tally (λ k. T (has m.needs k.0) × T (has m.needs k.1)) (at_table new)) (sym (base_was ∙ sym kept)) (pairs_top laws (at_table new) m.needs),
      (omega (arith, told, kept_range), told.0 ∙ kept_range.1),
      λ j at. let one = with_lowers laws b settled j m at r whole touched made c.without-heads.ensures val (at_table new) offer is c.lower_pairs.ensures (Upto a before) (Upto a after) (λ x h. ⊎_elim inl (λ e. inr (e ∙ sym told.1.1)) (one_more a before after x told.1.2 h)) in
          record { runs = λ done floor s. one.runs done floor ((c.loop-r.invariant.2 j at).runs done floor s) },
    )

pub loop-r-preserved : goal.loop-r-preserved
loop-r-preserved g c =
    let laws = laws_of g.V.Tally g.met.V.Tally.lawful in
    let b = setting_in c.args.origin.now in
    let m = c.args.m.now in
    let r = c.in-Some.r in
    let told = c.in-Some.ensures.steps in
    let kept_range = c.loop-r.invariant.1 in
    let a = c.into_iter-r-iterator.result.start in
    let before = c.loop-r.r-iterator.start in
    let after = c.next.new.self.start in
    let val = place_of (pairs g.V.Tally b) c.loop-r.table in
    let broken : T (has m.breaks r) = from_true (sym c.has.ensures ∙ c.if-not-has.false) in (
      c.loop-r.invariant.0,
      (omega (arith, told, kept_range), told.0 ∙ kept_range.1),
      λ j at. let none = with_broken laws b c.args.settled j m at val (Upto a before) (Upto a after) r broken (λ x h. ⊎_elim inl (λ e. inr (e ∙ sym told.1.1)) (one_more a before after x told.1.2 h)) in
          record { runs = λ done floor s. none.runs done floor ((c.loop-r.invariant.2 j at).runs done floor s) },
    )

pub returns : goal.returns
returns g c = λ j at.
    let laws = laws_of g.V.Tally g.met.V.Tally.lawful in
    let b = setting_in c.args.origin.now in
    let told = c.in-None-r.ensures.steps in
    let kept_range = c.loop-r.invariant.1 in
    let same = c.into_iter-r-iterator.ensures.into_iter_gives in
    let a = c.into_iter-r-iterator.result.start in
    let r = c.loop-r.r-iterator.start in
    let starts : a ≡ c.concerned-others.result.start = ap (λ k. k.start) same in
    let ends : c.into_iter-r-iterator.result.end ≡ c.concerned-others.result.end = ap (λ k. k.end) same in
    let all = with_last laws b c.args.settled j c.args.m.now at (place_of (pairs g.V.Tally b) c.loop-r.table) (Upto a r)
    (λ x l unbroken touched. let i = (c.concerned-others.ensures.told x l unbroken).1 touched in (omega (arith, i.0, starts), omega (arith, i.1, told.1, kept_range, ends))) in
    record { runs = λ done floor s. all.runs done floor ((c.loop-r.invariant.2 j at).runs done floor s) }
