-- What a kind of cost is: an order, a least cost and a join that keep these laws.
use Rattle.std.specs.Prelude.{◌≡◌, Bool, false, T}

pub record Lawful {V : Type 0} (at_most : V → V → Bool) (nil : V) (join : V → V → V) : Type 0 where
  -- u at most v, and v at most w: then u is at most w
  pub transitive : (u v w : V) → T (at_most u v) → T (at_most v w) → T (at_most u w)
  -- any two can be compared: where u is not at most v, v is at most u
  pub total : (u v : V) → at_most u v ≡ false → T (at_most v u)
  -- two costs that are each at most the other are the same
  pub antisymmetric : (u v : V) → T (at_most u v) → T (at_most v u) → u ≡ v
  -- nil is at most every cost
  pub least : (v : V) → T (at_most nil v)
  -- a join of three may be grouped either way
  pub associative : (u v w : V) → join (join u v) w ≡ join u (join v w)
  -- the parts of a join may change places
  pub commutative : (u v : V) → join u v ≡ join v u
  -- nil adds nothing
  pub neutral : (v : V) → join nil v ≡ v
  -- joining the same cost to both sides keeps their order
  pub monotone : (u v w : V) → T (at_most u v) → T (at_most (join u w) (join v w))
