-- The order of records by promise, then spent, and by number where they tie.
use Rattle.std.proofs.Common.{◌≡◌, ℕ, suc, ◌≤◌, ◌⊎◌, sym, refl, ◌∙◌, inl, inr, arith}
use Rattle.costs.specs.declared.tally.Tally.{Ghosts}
use Rattle.theory.specs.Problem.{Lower}
use Rattle.theory.specs.Records.{Ahead, by_promise, by_spent, by_number}
use Rattle.theory.specs.declared.record.Record.{Record}
use Rattle.theory.proofs.Order.{Laws, Le, compare, lower_le, lower_not, le_trans, le_anti, le_refl, le_of, lower_then, then_lower}

pub data Key {V : Type 0} (tally : Ghosts V) (r q : Record V) : Type 0 where
  lower : Lower tally r.promise q.promise → Key tally r q
  level : r.promise ≡ q.promise → Le tally r.spent q.spent → Key tally r q

module _ {V : Type 0} {tally : Ghosts V} (laws : Laws tally) where
  pub key_both : (r q : Record V) → Le tally r.promise q.promise → Le tally r.spent q.spent → Key tally r q
  key_both r q h k = elim (compare laws q.promise r.promise) [ inl b ↦ level (le_anti laws h b) k | inr b ↦ lower b ]

  pub key_promise : {r q : Record V} → Key tally r q → Le tally r.promise q.promise
  key_promise {r} {q} (lower h) = lower_le laws r.promise q.promise h
  key_promise {r} {q} (level e k) = le_of laws e

  pub key_trans : {r q p : Record V} → Key tally r q → Key tally q p → Key tally r p
  key_trans {r} {q} {p} (lower h) k = lower (lower_then laws r.promise q.promise p.promise h (key_promise k))
  key_trans {r} {q} {p} (level e h) (lower k) = lower (then_lower laws r.promise q.promise p.promise (le_of laws e) k)
  key_trans (level e h) (level f k) = level (e ∙ f) (le_trans laws h k)

  pub key_refl : {r : Record V} → Key tally r r
  key_refl = level refl (le_refl laws)

  pub ahead_key : {r q : Record V} {i j : ℕ} → Ahead tally r i q j → Key tally r q
  ahead_key (by_promise h) = lower h
  ahead_key {r} {q} (by_spent e h) = level e (lower_le laws r.spent q.spent h)
  ahead_key (by_number e f h) = level e (le_of laws f)

  pub ahead_trans : {r q p : Record V} {i j k : ℕ} → Ahead tally r i q j → Ahead tally q j p k → Ahead tally r i p k
  ahead_trans {r} {q} {p} (by_promise h) (by_promise g) =
      by_promise (lower_then laws r.promise q.promise p.promise h (lower_le laws q.promise p.promise g))
  ahead_trans {r} {q} {p} (by_promise h) (by_spent e g) = by_promise (lower_then laws r.promise q.promise p.promise h (le_of laws e))
  ahead_trans {r} {q} {p} (by_promise h) (by_number e f g) = by_promise (lower_then laws r.promise q.promise p.promise h (le_of laws e))
  ahead_trans {r} {q} {p} (by_spent e h) (by_promise g) = by_promise (then_lower laws r.promise q.promise p.promise (le_of laws e) g)
  ahead_trans {r} {q} {p} (by_spent e h) (by_spent f g) =
      by_spent (e ∙ f) (lower_then laws r.spent q.spent p.spent h (lower_le laws q.spent p.spent g))
  ahead_trans {r} {q} {p} (by_spent e h) (by_number f d g) = by_spent (e ∙ f) (lower_then laws r.spent q.spent p.spent h (le_of laws d))
  ahead_trans {r} {q} {p} (by_number e d h) (by_promise g) = by_promise (then_lower laws r.promise q.promise p.promise (le_of laws e) g)
  ahead_trans {r} {q} {p} (by_number e d h) (by_spent f g) = by_spent (e ∙ f) (then_lower laws r.spent q.spent p.spent (le_of laws d) g)
  ahead_trans (by_number e d h) (by_number f c g) = by_number (e ∙ f) (d ∙ c) (omega arith)

  -- one of two records is ahead; the first where they tie
  unfoldable pub ahead_or : (r q : Record V) (i j : ℕ) → i ≤ j → Ahead tally r i q j ⊎ Ahead tally q j r i
  ahead_or r q i j le = elim (compare laws r.promise q.promise) [
    | inr h ↦ inr (by_promise h)
    | inl h ↦ elim (compare laws q.promise r.promise) [
      | inr g ↦ inl (by_promise g)
      | inl g ↦ (let e = le_anti laws h g in elim (compare laws r.spent q.spent) [
        | inr k ↦ inr (by_spent (sym e) k)
        | inl k ↦ elim (compare laws q.spent r.spent) [
          | inr l ↦ inl (by_spent e l)
          | inl l ↦ inl (by_number e (le_anti laws k l) le)
        ]
      ])
    ]
  ]

  -- two records that are each ahead of the other are one
  pub ahead_both : {r q : Record V} {i j : ℕ} → Ahead tally r i q j → Ahead tally q j r i → i ≡ j
  ahead_both {r} {q} (by_promise h) k = absurd (lower_not laws r.promise q.promise h (key_promise (ahead_key k)))
  ahead_both {r} {q} (by_spent e h) (by_promise k) = absurd (lower_not laws q.promise r.promise k (le_of laws e))
  ahead_both {r} {q} (by_spent e h) (by_spent f k) = absurd (lower_not laws r.spent q.spent h (lower_le laws q.spent r.spent k))
  ahead_both {r} {q} (by_spent e h) (by_number f g k) = absurd (lower_not laws r.spent q.spent h (le_of laws g))
  ahead_both {r} {q} (by_number e f h) (by_promise k) = absurd (lower_not laws q.promise r.promise k (le_of laws e))
  ahead_both {r} {q} (by_number e f h) (by_spent g k) = absurd (lower_not laws q.spent r.spent k (le_of laws f))
  ahead_both (by_number e f h) (by_number g l k) = omega arith

-- one place further on, nothing changes
pub shift : {V : Type 0} {tally : Ghosts V} {r q : Record V} {i j : ℕ} → Ahead tally r i q j → Ahead tally r (suc i) q (suc j)
shift (by_promise h) = by_promise h
shift (by_spent e h) = by_spent e h
shift (by_number e f h) = by_number e f (omega arith)

pub ahead_self : {V : Type 0} {tally : Ghosts V} {r : Record V} {i : ℕ} → Ahead tally r i r i
ahead_self = by_number refl refl (omega arith)
