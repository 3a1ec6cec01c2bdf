-- One line, as the reader takes it.
use Rattle.std.proofs.Common.{◌≡◌, ℕ, suc, ◌+◌, ◌-◌, ◌≤◌, false, List, [], ◌∷◌, ◌++◌, length, get_or, take, drop, Ok, Err, Result, sym, refl, ap, ◌∙◌, subst, append_assoc, arith, MatchResult}
use borrow.Author.Tests.{clash}
use Rattle.std.proofs.lemmas.List.{get_or-append-add, length-append, take_rest}
use Rattle.std.proofs.lemmas.Slice.Eq.{HasBytesAt}
use Rattle.std.specs.List.{AllByRecursion}
use Rattle.std.specs.Result.{IsErrAnd}
use Rattle.facts.specs.declared.sets.FactSet.{FactSet}
use Rattle.taskfile.specs.declared.keys.Key.{Key}
use Rattle.taskfile.specs.declared.keys.Key.TheVariants.{Facts, Moves, Start, Goal, Group, Price, Needs, Makes, Breaks}
use Rattle.taskfile.specs.declared.keys.Value.{Value}
use Rattle.taskfile.specs.declared.misread.Flaw.{Flaw}
use Rattle.taskfile.specs.declared.misread.Flaw.TheVariants.{WrongLine, Malformed, OutOfRange, TooManyMoves}
use Rattle.taskfile.specs.declared.misread.Misread.{Misread}
use Rattle.taskfile.specs.declared.reader.Reader.{Reader}
use Rattle.taskfile.specs.Cuts.{Cut, Lacks}
use Rattle.taskfile.specs.Entries.{Entry, number, members, line_of, value_of, Formed, Between}
use Rattle.taskfile.specs.Faults.{HasLine, Says}
use Rattle.taskfile.specs.Keys.{after, lead, one_number, lowest, highest}
use Rattle.taskfile.specs.Steps.{Line, TookLine, NoLine, TookAs, Faults, Stops}
use Rattle.taskfile.specs.Tellings.{TellsSet}
use Rattle.taskfile.specs.Values.{is_number, written, Listed, OnlyFacts, SetRead, ReadAs}
use Rattle.taskfile.proofs.Cutting.{no_cut}
use Rattle.taskfile.proofs.Leading.{begins}
use Rattle.taskfile.proofs.Wholes.{lead_lacks, line_then, same_line}

-- what a text begins with, and has no b, its part before a b begins with
within : (b : ℕ) (p line rest w : List ℕ) → Lacks b p → line ++ b ∷ rest ≡ p ++ w → (u : List ℕ) × (line ≡ p ++ u)
within b [] line rest w f e = (line, refl)
within b (a ∷ p) [] rest w f e = let z : a ≡ b = cc in absurd (f 0 (omega arith) z)
within b (a ∷ p) (x ∷ line) rest w f e =
    let z : x ≡ a = cc in
    let t : line ++ b ∷ rest ≡ p ++ w = cc in
    let r = within b p line rest w (λ k lt. f (suc k) (omega arith)) t in
    let g : line ≡ p ++ r.0 = r.1 in
    (r.0, cc)

end_lacks : (b : ℕ) (line p u : List ℕ) → line ≡ p ++ u → Lacks b line → Lacks b u
end_lacks b line p u e f k lt h =
    let len = ap length e ∙ length-append p u in
    f (length p + k) (omega arith) (ap (λ l. get_or l (length p + k) 0) e ∙ get_or-append-add p u k 0 ∙ h)

pub unended : (a : Reader) → Lacks 10 a.rest.now → NoLine a
unended a f (v, rest, e) = no_cut 10 a.rest.now f (lead a.expected ++ v) rest (e ∙ sym (append_assoc (lead a.expected) v (10 ∷ rest)))

pub refused : (a : Reader) (line after : List ℕ) → Cut 10 a.rest.now line after → ((v : List ℕ) → line ≡ lead a.expected ++ v → ⊥) → NoLine a
refused a line after c f (v, rest, e) =
    let r = within 10 (lead a.expected) line after (v ++ 10 ∷ rest) (lead_lacks a.expected) (sym c.parts ∙ e) in
    f r.0 r.1

-- the line begins with the lead of k, and w is what follows it
pub took : {a b : Reader} {k : Key} {w : Value} {got : Value × Key} {line : List ℕ} → Cut 10 a.rest.now line b.rest.now → a.expected ≡ k → got ≡ (w, after k) → is_number w ≡ one_number k → length (lead k) ≤ length line → HasBytesAt line 0 (lead k) → written w ≡ take (length line - length (lead k)) (drop (length (lead k)) line) → b.expected ≡ got.1 → b.line ≡ a.line + 1 → TookLine a got.0 b
took {a = a} {b = b} {k = k} {w = w} {got = got} {line = line} c e g s long led rest next count =
    let h : line ≡ lead k ++ written w = begins (lead k) line long led ∙ ap (λ t. lead k ++ t) (sym (rest ∙ take_rest line (length (lead k)))) in
    let line_is : Line k w a.rest.now b.rest.now = record {
      text = c.parts ∙ ap (λ l. l ++ 10 ∷ b.rest.now) h ∙ append_assoc (lead k) (written w) (10 ∷ b.rest.now);
      sort = s;
      whole = end_lacks 10 line (lead k) (written w) h c.first;
    }
    in
    record {
      line = subst (λ x. Line x got.0 a.rest.now b.rest.now) (sym e) (subst (λ x. Line k x a.rest.now b.rest.now) (sym (ap (λ p. p.0) g)) line_is);
      moved = record { next = next ∙ ap (λ p. p.1) g ∙ ap after (sym e); count = count };
    }

-- the facts of a set are below 64, and no other number is
set_range : (k : Key) → one_number k ≡ false → (lowest k ≡ 0) × (highest k ≡ 63)
set_range Facts s = absurd (clash (sym s))
set_range Moves s = absurd (clash (sym s))
set_range Start s = (refl, refl)
set_range Goal s = (refl, refl)
set_range Group s = absurd (clash (sym s))
set_range Price s = absurd (clash (sym s))
set_range Needs s = (refl, refl)
set_range Makes s = (refl, refl)
set_range Breaks s = (refl, refl)

weaker : {P Q : ℕ → Type 0} → ((n : ℕ) → P n → Q n) → (ns : List ℕ) → AllByRecursion P ns → AllByRecursion Q ns
weaker f [] h = tt
weaker f (n ∷ ns) h = (f n h.0, weaker f ns h.1)

facts_between : (k : Key) → one_number k ≡ false → (ns : List ℕ) → OnlyFacts ns → AllByRecursion (Between k) ns
facts_between k s = let r = set_range k s in weaker (λ n h. (omega arith, omega arith))

between_facts : (k : Key) → one_number k ≡ false → (ns : List ℕ) → AllByRecursion (Between k) ns → OnlyFacts ns
between_facts k s = let r = set_range k s in weaker (λ n h. omega (arith, h.1))

-- the value of the line at hand
module _ (a b : Reader) (v : Value) (t : TookLine a v b) where
  -- the line says each entry of this value
  said : (e : Entry) → written v ≡ value_of e → a.rest.now ≡ line_of a.expected e ++ b.rest.now
  said e h = t.line.text ∙ ap (λ d. lead a.expected ++ (d ++ 10 ∷ b.rest.now)) h ∙ sym (line_then a.expected e b.rest.now)

  -- and no other
  only_said : (e : Entry) → Formed a.expected e → Says a.expected e a.rest.now → written v ≡ value_of e
  only_said e f s = (same_line a.expected e f (written v) t.line.whole b.rest.now s.0 (sym t.line.text ∙ s.1)).0

  there : HasLine a.expected a.rest.now
  there = (written v, b.rest.now, t.line.text)

  pub take_read : {A : Type 0} (tells : A → Entry → Type 0) (r : Result A Flaw) → ReadAs tells a.expected (written v) r → MatchResult r (λ u. TookAs tells a u b) (Faults a)
  take_read tells (Ok u) (e, h, w, f, i) = record { entry = e; told = h; took = record { text = said e w; formed = f; inside = i; moved = t.moved } }
  take_read tells (Err WrongLine) h = absurd h
  take_read tells (Err Malformed) h = λ room. (there, λ e f says. h e f (only_said e f says))
  take_read tells (Err OutOfRange) (e, w, f, out) = λ room. (e, (b.rest.now, said e w), f, out)
  take_read tells (Err TooManyMoves) h = absurd h

-- what is made of what was read, with the number of the line at a flaw
module _ {A : Type 0} (tells : A → Entry → Type 0) (a b : Reader) where
  at_line : (r : Result A Flaw) (q : Result A Misread) → MatchResult r (λ u. TookAs tells a u b) (Faults a) → MatchResult r (λ u. q ≡ Ok u) (λ f. IsErrAnd q (λ m. m ≡ record { flaw = f; line = a.line })) → MatchResult q (λ u. TookAs tells a u b) (Stops a)
  at_line (Ok u) q t e = subst (λ x. MatchResult x (λ u. TookAs tells a u b) (Stops a)) (sym e) t
  at_line (Err f) (Ok u) t e = absurd e
  at_line (Err f) (Err m) t e = record { flaw = subst (Faults a) (sym (ap (λ x. x.flaw) e)) t; line = ap (λ x. x.line) e }

  pub answered : (v : Result Value Flaw) (r : Result A Flaw) (q : Result A Misread) → MatchResult v (λ w. TookLine a w b) (λ f. (f ≡ WrongLine) × NoLine a) → MatchResult v (λ w. ReadAs tells a.expected (written w) r) (λ f. r ≡ Err f) → MatchResult r (λ u. q ≡ Ok u) (λ f. IsErrAnd q (λ m. m ≡ record { flaw = f; line = a.line })) → MatchResult q (λ u. TookAs tells a u b) (Stops a)
  answered (Ok v) r q t h e = at_line r q (take_read a b v t tells r h) e
  answered (Err f) r q (is, none) h e =
      at_line r q (subst (λ x. MatchResult x (λ u. TookAs tells a u b) (Faults a)) (sym (h ∙ ap Err is)) (λ room. none)) e

no_set : (k : Key) (v : List ℕ) → one_number k ≡ false → ((ns : List ℕ) → Listed v ns → ⊥) → (e : Entry) → Formed k e → v ≡ value_of e → ⊥
no_set k v s h (number n) f w = clash (sym s ∙ f.0)
no_set k v s h (members ns) f w = h ns (record { text = w; rising = f.1; short = f.2 })

pub set_read : (k : Key) (v : List ℕ) → one_number k ≡ false → (r : Result FactSet Flaw) → SetRead v r → ReadAs TellsSet k v r
set_read k v s (Ok u) h = (members h.0, h.3, h.1.text, (s, h.1.rising, h.1.short), facts_between k s h.0 h.2)
set_read k v s (Err WrongLine) h = h
set_read k v s (Err Malformed) h = no_set k v s h
set_read k v s (Err OutOfRange) h = (members h.0, h.1.text, (s, h.1.rising, h.1.short), λ i. h.2 (between_facts k s h.0 i))
set_read k v s (Err TooManyMoves) h = h
