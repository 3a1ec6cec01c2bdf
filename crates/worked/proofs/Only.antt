-- Calls with the bound that make was handed are answered in one way only.
use Rattle.std.proofs.Common.{◌≡◌, ℕ, List, [], ◌∷◌, map, sym, refl, ap, ◌∙◌, subst, subst₂}
use Rattle.tasks.specs.Places.{At, here, there}
use Rattle.costs.specs.Laws.{Lawful}
use Rattle.costs.specs.declared.tally.Tally.{Ghosts}
use Rattle.theory.specs.Problem.{Problem, Lent, Usable, Honest}
use Rattle.theory.specs.Queue.{Call, run, read_out, Event, State, Answers, Queue, made, and_call, Steady, SameEstimates}
use Rattle.theory.proofs.Basics.{impossible}
use Rattle.theory.proofs.Single.{makes_same, every_call_answered}
use Rattle.worked.specs.Cases.{call_of, Goes}

module _ {V : Type 0} {tally : Ghosts V} (P : Problem tally) where
  abbrev pub OwnCall : Call V → Type 0
  OwnCall (run n b) = b ≡ P.bound
  OwnCall (read_out places) = Unit {0}

  -- every run is handed the bound of the make
  abbrev pub Own : List (Event V) → Type 0
  Own [] = Unit {0}
  Own (e ∷ es) = OwnCall (call_of e) × Own es

  own_at : (es : List (Event V)) {i : ℕ} {e : Event V} → Own es → At es i e → OwnCall (call_of e)
  own_at [] own at = elim at [ ]
  own_at (e ∷ es) own here = own.0
  own_at (e ∷ es) own (there at) = own_at es own.1 at

  own_steady : (es : List (Event V)) → Own es → Steady P es
  own_steady es own i n b r at s = ap (λ x. x.estimate s) (own_at es own at)

  own_call : (call : Call V) → OwnCall call → (n : ℕ) (b : Lent V) → call ≡ run n b → Usable P b → SameEstimates P b
  own_call call own n b e usable s = ap (λ x. x.estimate s) (subst OwnCall e own)

  module _ (laws : Lawful tally.at_most tally.nil tally.join) (honest : Honest P) where
    one_way : {es fs : List (Event V)} {now then : State V} → Own es → Queue P es now → Queue P fs then → map call_of fs ≡ map call_of es → (fs ≡ es) × (then ≡ now)
    one_way own (made m) (made n) e = (refl, makes_same P n m)
    one_way own (made m) (and_call q a) e = impossible (cc)
    one_way own (and_call q a) (made m) e = impossible (cc)
    one_way own (and_call {es = es} {before = before} {after = after} {call = call} {answer = answer} q a) (and_call {es = fs} {before = was} {after = then} {call = other} {answer = said} r b) e =
        let fewer : map call_of fs ≡ map call_of es = cc in
        let rest = one_way own.1 q r fewer in
        let same : other ≡ call = cc in
        let one = every_call_answered laws P honest es before q (own_steady es own.1) call (own_call call own.0) in
        let mine = one.only answer after a in
        let yours = one.only said then (subst₂ (λ x y. Answers P x y said then) rest.1 same b) in
        let say : said ≡ answer = yours.0 ∙ sym mine.0 in
        let left : fs ≡ es = rest.0 in
        (cc, yours.1 ∙ sym mine.1)

  pub goes : Lawful tally.at_most tally.nil tally.join → Honest P → {es : List (Event V)} {now : State V} → Own es → Queue P es now → Goes P es
  goes laws honest {now = now} own q = record { now = now; queue = q; only = λ fs then r e. (one_way laws honest own q r e).0 }
