-- What is left of a set, and what reading it makes of the numbers before.
use Rattle.std.proofs.Common.{◌≡◌, ℕ, ◌+◌, ◌<◌, ◌≤◌, Bool, true, false, ◌||◌, eqb, ◌⊎◌, List, [], ◌∷◌, ◌++◌, length, get_or, Some, None, Ok, Err, decimal, Decides, Option, Result, sym, refl, ap, ◌∙◌, subst, inl, inr, ⊎_elim, arith}
use Rattle.std.proofs.lemmas.List.{append-nil, get_or_at, get_or_append_left, length-append}
use Rattle.std.proofs.lemmas.Bool.{eq-eqb, eqb-true, eqb-false, or_cases, or_left, or_right}
use Rattle.std.specs.Bool.{MatchBool}
use Rattle.std.specs.Option.{ok_or}
use Rattle.std.specs.List.{AllByRecursion, IsFirstMatchOrLen}
use Rattle.facts.proofs.Tests.{not_true_false}
use Rattle.facts.specs.Sets.{has, Among, Lists}
use Rattle.facts.specs.declared.sets.FactSet.{FactSet}
use Rattle.taskfile.specs.declared.misread.Flaw.{Flaw}
use Rattle.taskfile.specs.declared.misread.Flaw.TheVariants.{WrongLine, Malformed, OutOfRange, TooManyMoves}
use Rattle.taskfile.specs.declared.sets.Listing.{Listing}
use Rattle.taskfile.specs.Cuts.{Cut, Lacks}
use Rattle.taskfile.specs.Entries.{Short, commas}
use Rattle.taskfile.specs.Listings.{Joins, TookItem}
use Rattle.taskfile.specs.Values.{Numeral, Listed, OnlyFacts, SetRead}
use Rattle.taskfile.proofs.Cutting.{no_cut, same_cut}
use Rattle.taskfile.proofs.Decimals.{looks, same_numeral}
use Rattle.taskfile.proofs.Risings.{Rising, rising_rises, rises_rising_0}

-- no comma stands in a number
pub numeral_lacks : (v : List ℕ) (n : ℕ) → Numeral v n → Lacks 44 v
numeral_lacks v n h k lt e = let d = (looks v n h).digit k lt in omega arith

pub numeral : (n : ℕ) → Short n → Numeral (decimal n) n
numeral n h = record { short = h; digits = refl }

pub decimal_lacks : (n : ℕ) → Short n → Lacks 44 (decimal n)
decimal_lacks n h = numeral_lacks (decimal n) n (numeral n h)

-- v lists n and then ns, which begin at `least`
pub record Items (least : ℕ) (v : List ℕ) (n : ℕ) (ns : List ℕ) : Type 0 where
  pub text : v ≡ commas n ns
  pub rising : Rising least (n ∷ ns)
  pub short : AllByRecursion Short (n ∷ ns)

-- the facts of t are those of a and the numbers ns
abbrev pub Adds : FactSet → List ℕ → FactSet → Type 0
Adds a ns t = (f : ℕ) → Decides (has t f) ((has a f ≡ true) ⊎ Among f ns)

-- r is right where s is read, and v is left
abbrev pub From : Listing → List ℕ → Result FactSet Flaw → Type 0
From s v (Ok t) = (n : ℕ) × (ns : List ℕ) × (a : FactSet) × Items s.least v n ns × (s.facts ≡ Some a) × OnlyFacts (n ∷ ns) × Adds a (n ∷ ns) t
From s v (Err WrongLine) = ⊥
From s v (Err Malformed) = (n : ℕ) (ns : List ℕ) → Items s.least v n ns → ⊥
From s v (Err OutOfRange) = (n : ℕ) × (ns : List ℕ) × Items s.least v n ns × ((a : FactSet) → s.facts ≡ Some a → OnlyFacts (n ∷ ns) → ⊥)
From s v (Err TooManyMoves) = ⊥

-- where there are facts still, there were before, and the number is one
joins_back : (n : ℕ) (p q : Option FactSet) (a : FactSet) → Joins n p q → q ≡ Some a → (b : FactSet) × (p ≡ Some b) × (n < 64) × ((f : ℕ) → has a f ≡ (has b f || eqb f n))
joins_back n None None a j e = let z : ◌≡◌ {A = ℕ} 0 1 = cc in absurd (omega arith)
joins_back n None (Some t) a j e = absurd j
joins_back n (Some s) None a j e = let z : ◌≡◌ {A = ℕ} 0 1 = cc in absurd (omega arith)
joins_back n (Some s) (Some t) a j e = let same : t ≡ a = cc in (s, refl, j.0, subst (λ x. (f : ℕ) → has x f ≡ (has s f || eqb f n)) same j.1)

joins_on : (n : ℕ) (p q : Option FactSet) (b : FactSet) → Joins n p q → p ≡ Some b → n < 64 → (a : FactSet) × (q ≡ Some a)
joins_on n None q b j e lt = let z : ◌≡◌ {A = ℕ} 0 1 = cc in absurd (omega arith)
joins_on n (Some s) None b j e lt = absurd (omega arith)
joins_on n (Some s) (Some t) b j e lt = (t, refl)

-- a has the facts of b and n, and t those of a and ns
adds_more : (a b t : FactSet) (n : ℕ) (ns : List ℕ) → ((f : ℕ) → has a f ≡ (has b f || eqb f n)) → Adds a ns t → Adds b (n ∷ ns) t
adds_more a b t n ns e d f = (λ h. there ((d f).0 h), λ h. (d f).1 (back h))
  where
    there : (has a f ≡ true) ⊎ Among f ns → (has b f ≡ true) ⊎ Among f (n ∷ ns)
    there (inl h) = ⊎_elim (λ x. inl x) (λ x. inr (inl (eqb-true f n x))) (or_cases (has b f) (eqb f n) (sym (e f) ∙ h))
    there (inr h) = inr (inr h)

    back : (has b f ≡ true) ⊎ Among f (n ∷ ns) → (has a f ≡ true) ⊎ Among f ns
    back (inl h) = inl (e f ∙ or_left (has b f) (eqb f n) h)
    back (inr (inl h)) = inl (e f ∙ or_right (has b f) (eqb f n) (eq-eqb f n h))
    back (inr (inr h)) = inr h

adds_none : (a : FactSet) → Adds a [] a
adds_none a f = (λ h. inl h, λ h. only h)
  where
    only : (has a f ≡ true) ⊎ Among f [] → has a f ≡ true
    only (inl h) = h
    only (inr h) = absurd h

-- the items of a text with a comma: the first, and more
first_item : (least : ℕ) (v item rest : List ℕ) (n : ℕ) (ns : List ℕ) → Cut 44 v item rest → Items least v n ns → Numeral item n × ((m : ℕ) × ((ms : List ℕ) × ((ns ≡ m ∷ ms) × Items (n + 1) rest m ms)))
first_item least v item rest n [] c i =
    absurd (no_cut 44 v (subst (Lacks 44) (sym i.text) (decimal_lacks n i.short.0)) item rest c.parts)
first_item least v item rest n (m ∷ ms) c i =
    let e = same_cut 44 item (decimal n) rest (commas m ms) c.first (decimal_lacks n i.short.0) (sym c.parts ∙ i.text) in
    (record { short = i.short.0; digits = e.0 }, (m, (ms, (refl, record { text = e.1; rising = i.rising.1; short = i.short.1 }))))

-- the items of a text without one
only_item : (least : ℕ) (v : List ℕ) (n : ℕ) (ns : List ℕ) → Lacks 44 v → Items least v n ns → Numeral v n × (ns ≡ [])
only_item least v n [] lacks i = (record { short = i.short.0; digits = i.text }, refl)
only_item least v n (m ∷ ms) lacks i = absurd (no_cut 44 v lacks (decimal n) (commas m ms) i.text)

module _ (s t : Listing) (v item rest : List ℕ) (c : Cut 44 v item rest) (k : TookItem s item t) where
  more_items : (n : ℕ) (ns : List ℕ) → Items t.least rest n ns → Items s.least v k.n (n ∷ ns)
  more_items n ns i = record {
    text = c.parts ∙ (λ j. k.reads.digits j ++ 44 ∷ i.text j);
    rising = (k.rises, subst (λ l. Rising l (n ∷ ns)) k.next i.rising);
    short = (k.reads.short, i.short);
  }

  -- what is right after an item and its comma is right before it
  pub step : (r : Result FactSet Flaw) → From t rest r → From s v r
  step (Ok u) (n, ns, a, i, e, w, d) =
      let j = joins_back k.n s.facts t.facts a k.joins e in
      (k.n, n ∷ ns, j.0, more_items n ns i, j.1, (j.2, w), adds_more a j.0 u k.n (n ∷ ns) j.3 d)
  step (Err WrongLine) f = f
  step (Err Malformed) f = λ n ns i.
      let p = first_item s.least v item rest n ns c i in
      let e = same_numeral item n k.n p.0 k.reads in
      f p.1.0 p.1.1.0 (subst (λ l. Items l rest p.1.0 p.1.1.0) (ap (λ x. x + 1) e ∙ sym k.next) p.1.1.1.1)
  step (Err OutOfRange) (n, ns, i, f) = (k.n, n ∷ ns, more_items n ns i, λ a e w. let j = joins_on k.n s.facts t.facts a k.joins e w.0 in f j.0 j.1 w.1)
  step (Err TooManyMoves) f = f

module _ (s t : Listing) (v : List ℕ) (lacks : Lacks 44 v) (k : TookItem s v t) where
  one_item : Items s.least v k.n []
  one_item = record { text = k.reads.digits; rising = (k.rises, tt); short = (k.reads.short, tt) }

  last_within : (u : FactSet) → t.facts ≡ Some u → From s v (Ok u)
  last_within u e =
      let j = joins_back k.n s.facts t.facts u k.joins e in
      (k.n, [], j.0, one_item, j.1, (j.2, tt), adds_more u j.0 u k.n [] j.3 (adds_none u))

  last_beyond : t.facts ≡ None → From s v (Err OutOfRange)
  last_beyond b = (
    k.n,
    [],
    one_item,
    λ a e w.
        let j = joins_on k.n s.facts t.facts a k.joins e w.0 in
        let h : t.facts ≡ Some j.0 = j.1 in
        let z : ◌≡◌ {A = ℕ} 0 1 = cc in omega arith,
  )

  pub last : (o : Option FactSet) → t.facts ≡ o → From s v (ok_or o OutOfRange)
  last None e = last_beyond e
  last (Some u) e = last_within u e

-- an item that is no number, or does not rise
abbrev pub Refused : Listing → List ℕ → Type 0
Refused s item = (n : ℕ) → Numeral item n → s.least ≤ n → ⊥

pub refused_item : (s : Listing) (v item rest : List ℕ) → Cut 44 v item rest → Refused s item → From s v (Err Malformed)
refused_item s v item rest c f = λ n ns i. f n (first_item s.least v item rest n ns c i).0 i.rising.0

pub refused_last : (s : Listing) (v : List ℕ) → Lacks 44 v → Refused s v → From s v (Err Malformed)
refused_last s v lacks f = λ n ns i. f n (only_item s.least v n ns lacks i).0 i.rising.0

abbrev pub Empty : FactSet → Type 0
Empty s = (f : ℕ) → has s f ≡ false

lists_adds : (a t : FactSet) (ns : List ℕ) → Empty a → Rising 0 ns → Adds a ns t → Lists t ns
lists_adds a t ns none r d = record { rising = rising_rises 0 ns r; members = λ f. ((λ h. only f ((d f).0 h)), λ h. (d f).1 (inr h)) }
  where
    only : (f : ℕ) → (has a f ≡ true) ⊎ Among f ns → Among f ns
    only f (inl h) = absurd (not_true_false (sym (none f) ∙ h))
    only f (inr h) = h

-- what is right of the whole text, of which nothing is read
pub start : (s : Listing) (a : FactSet) (v : List ℕ) → s.least ≡ 0 → s.facts ≡ Some a → Empty a → 0 < length v → (r : Result FactSet Flaw) → From s v r → SetRead v r
start s a v l z none some (Ok t) (n, ns, b, i, e, w, d) =
    let same : b ≡ a = cc in
    let rising = subst (λ x. Rising x (n ∷ ns)) l i.rising in
    (n ∷ ns, record { text = i.text; rising = rising_rises 0 (n ∷ ns) rising; short = i.short }, w, lists_adds b t (n ∷ ns) (subst Empty (sym same) none) rising d)
start s a v l z none some (Err WrongLine) f = f
start s a v l z none some (Err Malformed) f = nothing_fits
  where
    nothing_fits : (ns : List ℕ) → Listed v ns → ⊥
    nothing_fits [] h = let e = ap length h.text in omega arith
    nothing_fits (n ∷ ns) h = f n ns (record { text = h.text; rising = subst (λ x. Rising x (n ∷ ns)) (sym l) (rises_rising_0 (n ∷ ns) h.rising); short = h.short })
start s a v l z none some (Err OutOfRange) (n, ns, i, f) =
    (n ∷ ns, record { text = i.text; rising = rising_rises 0 (n ∷ ns) (subst (λ x. Rising x (n ∷ ns)) l i.rising); short = i.short }, f a z)
start s a v l z none some (Err TooManyMoves) f = f

-- what is right of the whole text v where s is read, and rest is left unless the last item is taken
abbrev pub Left : List ℕ → Listing → Bool → List ℕ → Type 0
Left v s false rest = (r : Result FactSet Flaw) → From s rest r → SetRead v r
Left v s true rest = SetRead v (ok_or s.facts OutOfRange)

-- an item of a split at commas: what stands before the first, or all, and that is then the last
abbrev pub Part : List ℕ → List ℕ → Bool → List ℕ → Type 0
Part rest item ends more =
    MatchBool ends (rest ≡ item) ((y : ℕ) × (rest ≡ item ++ y ∷ more)) × IsFirstMatchOrLen (λ b. eqb b 44) rest (length item)

part_lacks : (rest item more : List ℕ) → rest ≡ item ++ more → IsFirstMatchOrLen (λ b. eqb b 44) rest (length item) → Lacks 44 item
part_lacks rest item more e f k lt is =
    let here = ap (λ l. get_or l k 0) e ∙ get_or_append_left item more 0 k lt ∙ is in
    eqb-false (get_or rest k 0) 44 (f.0 k 0 (omega arith) lt) here

part_cut : (rest item more : List ℕ) (y : ℕ) → rest ≡ item ++ y ∷ more → IsFirstMatchOrLen (λ b. eqb b 44) rest (length item) → Cut 44 rest item more
part_cut rest item more y e f =
    let first = f.1 (omega (arith, ap length e, length-append item (y ∷ more))) 0 in
    let comma : y ≡ 44 = sym (ap (λ l. get_or l (length item) 0) e ∙ get_or_at item y more 0 (length item) refl) ∙ eqb-true _ 44 first in
    record { parts = e ∙ ap (λ b. item ++ b ∷ more) comma; first = part_lacks rest item (y ∷ more) e f }

module _ (v rest : List ℕ) (s : Listing) (d : Bool) (open_yet : d ≡ false) (left : Left v s d rest) where
  before_end : (r : Result FactSet Flaw) → From s rest r → SetRead v r
  before_end = subst (λ x. Left v s x rest) open_yet left

  pub left_more : (t : Listing) (ends : Bool) (item more : List ℕ) → Part rest item ends more → TookItem s item t → Left v t ends more
  left_more t true item more (e, f) k =
      let lacks = subst (Lacks 44) (sym e) (part_lacks rest item [] (e ∙ sym (append-nil item)) f) in
      before_end (ok_or t.facts OutOfRange) (last s t rest lacks (subst (λ i. TookItem s i t) (sym e) k) t.facts refl)
  left_more t false item more (p, f) k = λ r g. before_end r (step s t rest item more (part_cut rest item more p.0 p.1 f) k r g)

  pub left_refused : (ends : Bool) (item more : List ℕ) → Part rest item ends more → Refused s item → SetRead v (Err Malformed)
  left_refused true item more (e, f) h =
      let lacks = subst (Lacks 44) (sym e) (part_lacks rest item [] (e ∙ sym (append-nil item)) f) in
      before_end (Err Malformed) (refused_last s rest lacks (subst (Refused s) (sym e) h))
  left_refused false item more (p, f) h = before_end (Err Malformed) (refused_item s rest item more (part_cut rest item more p.0 p.1 f) h)
