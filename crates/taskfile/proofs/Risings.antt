-- Rising numbers from a least one on.
use Rattle.std.proofs.Common.{ℕ, ◌+◌, ◌≤◌, List, [], ◌∷◌, refl, inl, inr, arith}
use Rattle.facts.specs.Sets.{Among, Rises}

-- each number is at least `least`, and above the one before
abbrev pub Rising : ℕ → List ℕ → Type 0
Rising least [] = Unit {0}
Rising least (n ∷ ns) = (least ≤ n) × Rising (n + 1) ns

pub rising_among : (least f : ℕ) (ns : List ℕ) → Rising least ns → Among f ns → least ≤ f
rising_among least f [] r a = absurd a
rising_among least f (n ∷ ns) r (inl e) = omega (arith, r.0)
rising_among least f (n ∷ ns) r (inr a) = omega (arith, r.0, rising_among (n + 1) f ns r.1 a)

pub rising_rises : (least : ℕ) (ns : List ℕ) → Rising least ns → Rises ns
rising_rises least [] r = tt
rising_rises least (n ∷ ns) r = ((λ f a. omega (arith, rising_among (n + 1) f ns r.1 a)), rising_rises (n + 1) ns r.1)

pub rises_rising : (least : ℕ) (ns : List ℕ) → ((f : ℕ) → Among f ns → least ≤ f) → Rises ns → Rising least ns
rises_rising least [] low r = tt
rises_rising least (n ∷ ns) low r = (low n (inl refl), rises_rising (n + 1) ns (λ f a. omega (arith, r.0 f a)) r.1)

pub rises_rising_0 : (ns : List ℕ) → Rises ns → Rising 0 ns
rises_rising_0 ns r = rises_rising 0 ns (λ f a. omega arith) r
