-- A file has one outcome.
use Rattle.std.proofs.Common.{◌≡◌, ℕ, suc, ◌≤◌, true, ◌⊎◌, List, [], ◌∷◌, ◌++◌, length, drop, is_ok, Some, None, Ok, Err, Decides, Option, Result, sym, refl, ap, ◌∙◌, subst, inl, inr, ⊎_elim, append_assoc, arith}
use borrow.Author.Tests.{clash}
use Rattle.std.proofs.lemmas.List.{append-nil, length-append}
use Rattle.std.proofs.lemmas.Bool.{cases_lt}
use Rattle.std.proofs.lemmas.Bool.Decides.{same_from_decides}
use Rattle.facts.proofs.Members.{same_facts}
use Rattle.facts.specs.Sets.{has}
use Rattle.facts.specs.declared.sets.FactSet.{FactSet}
use Rattle.tasks.specs.declared.moves.Move.{Move}
use Rattle.taskfile.specs.declared.heading.Heading.{Heading}
use Rattle.taskfile.specs.declared.keys.Key.{Key}
use Rattle.taskfile.specs.declared.keys.Key.TheVariants.{Facts}
use Rattle.taskfile.specs.declared.misread.Flaw.{Flaw}
use Rattle.taskfile.specs.declared.misread.Flaw.TheVariants.{WrongLine, Malformed, OutOfRange, TooManyMoves}
use Rattle.taskfile.specs.declared.misread.Misread.{Misread}
use Rattle.taskfile.specs.Entries.{Entry, number, members, line_of, value_of, Formed, InRange, Fits}
use Rattle.taskfile.specs.Faults.{HasLine, Says, Faulty}
use Rattle.taskfile.specs.Fronts.{text_from, key_from, Front, announced, due}
use Rattle.taskfile.specs.Keys.{after}
use Rattle.taskfile.specs.Outcomes.{Wrong, ByLines, Outcome, IsText}
use Rattle.taskfile.specs.Tellings.{TellsNumber, TellsSet, TellsMove, TellsHeading, heading, Written, stay, put}
use Rattle.taskfile.proofs.Wholes.{line_then, same_entry}

-- what entries tell is determined
same_set : (s t : FactSet) (e : Entry) → TellsSet s e → TellsSet t e → s ≡ t
same_set s t (number n) a b = absurd a
same_set s t (members ns) a b = same_facts s t (λ f. same_from_decides (has s f) (has t f) (a.members f) (b.members f))

same_number : (n m : ℕ) (e : Entry) → TellsNumber n e → TellsNumber m e → n ≡ m
same_number n m (number k) a b = a ∙ sym b
same_number n m (members ns) a b = absurd a

same_move : (m o : Move) (g p n k b : Entry) → TellsMove m g p n k b → TellsMove o g p n k b → m ≡ o
same_move m o g p n k b s t =
    let group = same_number m.group o.group g s.group t.group in
    let price = same_number m.price o.price p s.price t.price in
    let needs = same_set m.needs o.needs n s.needs t.needs in
    let makes = same_set m.makes o.makes k s.makes t.makes in
    let breaks = same_set m.breaks o.breaks b s.breaks t.breaks in
    λ i. record { group = group i; price = price i; needs = needs i; makes = makes i; breaks = breaks i }

same_heading : (h k : Heading) (es : List Entry) → TellsHeading h es → TellsHeading k es → h ≡ k
same_heading h k (f ∷ c ∷ s ∷ g ∷ es) (heading f₁ c₁ s₁ g₁) (heading f₂ c₂ s₂ g₂) =
    let facts = same_number h.facts k.facts f f₁ f₂ in
    let count = same_number h.count k.count c c₁ c₂ in
    let start = same_set h.start k.start s s₁ s₂ in
    let goal = same_set h.goal k.goal g g₁ g₂ in
    λ i. record { facts = facts i; count = count i; start = start i; goal = goal i }
same_heading h k [] t u = elim t [ ]
same_heading h k (f ∷ []) t u = elim t [ ]
same_heading h k (f ∷ c ∷ []) t u = elim t [ ]
same_heading h k (f ∷ c ∷ s ∷ []) t u = elim t [ ]

same_written : (es : List Entry) (before after others : List Move) → Written es before after → Written es before others → after ≡ others
same_written es before after others (stay h) (stay k) = refl
same_written (_ ∷ _ ∷ _ ∷ _ ∷ _ ∷ es) (_ ∷ before) after (_ ∷ others) (stay h) (put t w) = absurd (omega arith)
same_written (_ ∷ _ ∷ _ ∷ _ ∷ _ ∷ es) (_ ∷ before) (_ ∷ after) others (put t w) (stay k) = absurd (omega arith)
same_written (g ∷ p ∷ n ∷ k ∷ b ∷ es) (_ ∷ before) (m ∷ after) (o ∷ others) (put t v) (put u w) =
    let first = same_move m o g p n k b t u in
    let rest = same_written es before after others v w in
    λ i. first i ∷ rest i

-- of two beginnings with good lines one goes on where the other ends
abbrev Further : ℕ → Key → List Entry → List ℕ → List Entry → List ℕ → Type 0
Further room k es rest fs more = (xs : List Entry) × (fs ≡ es ++ xs) × Front room (key_from k es) rest xs more

nested : (room : ℕ) (k : Key) (src rest more : List ℕ) (es fs : List Entry) → Front room k src es rest → Front room k src fs more → Further room k es rest fs more ⊎ Further room k fs more es rest
nested room k src rest more [] fs a b = inl (fs, refl, record { text = sym a.text ∙ b.text; good = b.good })
nested room k src rest more (e ∷ es) [] a b = inr (e ∷ es, refl, record { text = sym b.text ∙ a.text; good = a.good })
nested room k src rest more (e ∷ es) (d ∷ fs) a b =
    let left = append_assoc (line_of k e) (text_from (after k) es) rest in
    let right = append_assoc (line_of k d) (text_from (after k) fs) more in
    let s = same_entry k e d (text_from (after k) es ++ rest) (text_from (after k) fs ++ more) a.good.0.formed b.good.0.formed (sym left ∙ sym a.text ∙ b.text ∙ right) in
    let deeper = nested room (after k) (text_from (after k) es ++ rest) rest more es fs
    (record { text = refl; good = a.good.1 }) (record { text = s.1; good = b.good.1 }) in
    ⊎_elim
    (λ x. inl (x.0, (λ i. sym s.0 i ∷ x.1 i), x.2))
    (λ x. inr (x.0, (λ i. s.0 i ∷ x.1 i), x.2))
    deeper

-- where a good line stands nothing is at fault
says_first : (room : ℕ) (k : Key) (rest more : List ℕ) (e : Entry) (xs : List Entry) → Front room k rest (e ∷ xs) more → Says k e rest
says_first room k rest more e xs f = (text_from (after k) xs ++ more, f.text ∙ append_assoc (line_of k e) (text_from (after k) xs) more)

says_line : (k : Key) (e : Entry) (rest : List ℕ) → Says k e rest → HasLine k rest
says_line k e rest s = (value_of e, s.0, s.1 ∙ line_then k e s.0)

says_same : (k : Key) (e d : Entry) (rest : List ℕ) → Formed k e → Formed k d → Says k e rest → Says k d rest → e ≡ d
says_same k e d rest f g s t = (same_entry k e d s.0 t.0 f g (sym s.1 ∙ t.1)).0

no_fault : (room : ℕ) (k : Key) (rest more : List ℕ) (e : Entry) (xs : List Entry) (f : Flaw) → Front room k rest (e ∷ xs) more → Faulty room k rest f → ⊥
no_fault room k rest more e xs WrongLine a h = h (says_line k e rest (says_first room k rest more e xs a))
no_fault room k rest more e xs Malformed a h = h.1 e a.good.0.formed (says_first room k rest more e xs a)
no_fault room k rest more e xs OutOfRange a (d, s, formed, out) =
    out (subst (InRange k) (says_same k e d rest a.good.0.formed formed (says_first room k rest more e xs a) s) a.good.0.inside)
no_fault room k rest more e xs TooManyMoves a (d, s, formed, inside, out) =
    out (subst (Fits room k) (says_same k e d rest a.good.0.formed formed (says_first room k rest more e xs a) s) a.good.0.fits)

-- a line has one flaw
same_fault : (room : ℕ) (k : Key) (rest : List ℕ) (f g : Flaw) → Faulty room k rest f → Faulty room k rest g → f ≡ g
same_fault room k rest WrongLine WrongLine a b = refl
same_fault room k rest WrongLine Malformed a b = absurd (a b.0)
same_fault room k rest WrongLine OutOfRange a b = absurd (a (says_line k b.0 rest b.1))
same_fault room k rest WrongLine TooManyMoves a b = absurd (a (says_line k b.0 rest b.1))
same_fault room k rest Malformed WrongLine a b = absurd (b a.0)
same_fault room k rest Malformed Malformed a b = refl
same_fault room k rest Malformed OutOfRange a b = absurd (a.1 b.0 b.2 b.1)
same_fault room k rest Malformed TooManyMoves a b = absurd (a.1 b.0 b.2 b.1)
same_fault room k rest OutOfRange WrongLine a b = absurd (b (says_line k a.0 rest a.1))
same_fault room k rest OutOfRange Malformed a b = absurd (b.1 a.0 a.2 a.1)
same_fault room k rest OutOfRange OutOfRange a b = refl
same_fault room k rest OutOfRange TooManyMoves a b = absurd (a.3 (subst (InRange k) (sym (says_same k a.0 b.0 rest a.2 b.2 a.1 b.1)) b.3))
same_fault room k rest TooManyMoves WrongLine a b = absurd (b (says_line k a.0 rest a.1))
same_fault room k rest TooManyMoves Malformed a b = absurd (b.1 a.0 a.2 a.1)
same_fault room k rest TooManyMoves OutOfRange a b = absurd (b.3 (subst (InRange k) (says_same k a.0 b.0 rest a.2 b.2 a.1 b.1) a.3))
same_fault room k rest TooManyMoves TooManyMoves a b = refl

-- how reading ends after the lines es: all is well, or there is a flaw
abbrev Ends : ℕ → List Entry → List ℕ → Option Flaw → Type 0
Ends room es rest None = (length es ≡ due es) × (length rest ≡ 0)
Ends room es rest (Some f) = Wrong room es rest f

at_most_due : (room : ℕ) (es : List Entry) (rest : List ℕ) (o : Option Flaw) → Ends room es rest o → length es ≤ due es
at_most_due room es rest None h = omega (arith, h.0)
at_most_due room es rest (Some f) (inl h) = omega (arith, h.0)
at_most_due room es rest (Some f) (inr h) = omega (arith, h.0)

announced_more : (es xs : List Entry) → 2 ≤ length es → announced (es ++ xs) ≡ announced es
announced_more [] xs h = absurd (omega arith)
announced_more (e ∷ []) xs h = absurd (omega arith)
announced_more (e ∷ number n ∷ es) xs h = refl
announced_more (e ∷ members ns ∷ es) xs h = refl

-- after the last line that is due no good line follows
past_due : (es fs : List Entry) (x : Entry) (xs : List Entry) → fs ≡ es ++ (x ∷ xs) → length es ≡ due es → length fs ≤ due fs → ⊥
past_due es fs x xs e l h =
    let d = ap announced e ∙ announced_more es (x ∷ xs) (omega arith) in
    omega (arith, ap length e, length-append es (x ∷ xs))

not_further : (room : ℕ) (es fs : List Entry) (x : Entry) (xs : List Entry) (rest more : List ℕ) (o p : Option Flaw) → fs ≡ es ++ (x ∷ xs) → Front room (key_from Facts es) rest (x ∷ xs) more → Ends room es rest o → Ends room fs more p → ⊥
not_further room es fs x xs rest more None p e f h k = past_due es fs x xs e h.0 (at_most_due room fs more p k)
not_further room es fs x xs rest more (Some g) p e f (inl h) k = no_fault room (key_from Facts es) rest more x xs g f h.1
not_further room es fs x xs rest more (Some g) p e f (inr h) k = past_due es fs x xs e h.0 (at_most_due room fs more p k)

same_here : (room : ℕ) (es : List Entry) (rest : List ℕ) (o p : Option Flaw) → Ends room es rest o → Ends room es rest p → o ≡ p
same_here room es rest None None h k = refl
same_here room es rest None (Some g) h (inl k) = absurd (omega (arith, h.0, k.0))
same_here room es rest None (Some g) h (inr k) = absurd (omega (arith, h.1, k.1))
same_here room es rest (Some f) None (inl h) k = absurd (omega (arith, h.0, k.0))
same_here room es rest (Some f) None (inr h) k = absurd (omega (arith, h.1, k.1))
same_here room es rest (Some f) (Some g) (inl h) (inl k) = ap Some (same_fault room (key_from Facts es) rest f g h.1 k.1)
same_here room es rest (Some f) (Some g) (inl h) (inr k) = absurd (omega (arith, h.0, k.0))
same_here room es rest (Some f) (Some g) (inr h) (inl k) = absurd (omega (arith, h.0, k.0))
same_here room es rest (Some f) (Some g) (inr h) (inr k) = ap Some (h.2 ∙ sym k.2)

same_further : (room : ℕ) (es fs : List Entry) (rest more : List ℕ) (o p : Option Flaw) → Further room Facts es rest fs more → Ends room es rest o → Ends room fs more p → (es ≡ fs) × (o ≡ p)
same_further room es fs rest more o p ([], e, f) h k =
    let same : fs ≡ es = e ∙ append-nil es in
    (sym same, same_here room es rest o p h (subst (λ x. Ends room x rest p) same (subst (λ r. Ends room fs r p) (sym f.text) k)))
same_further room es fs rest more o p (x ∷ xs, e, f) h k = absurd (not_further room es fs x xs rest more o p e f h k)

same_ends : (room : ℕ) (src rest more : List ℕ) (es fs : List Entry) (o p : Option Flaw) → Front room Facts src es rest → Front room Facts src fs more → Ends room es rest o → Ends room fs more p → (es ≡ fs) × (o ≡ p)
same_ends room src rest more es fs o p a b h k =
    ⊎_elim
    (λ x. same_further room es fs rest more o p x h k)
    (λ x. let s = same_further room fs es more rest p o x k h in (sym s.0, sym s.1))
    (nested room Facts src rest more es fs a b)

by_lines : (src : List ℕ) (before : List Move) (r s : Result Heading Misread) (after others : List Move) → ByLines src before r after → ByLines src before s others → (r ≡ s) × (after ≡ others)
by_lines src before (Ok h) (Ok k) after others a b =
    let e = same_ends (length before) src [] [] a.entries b.entries None None a.text b.text (a.whole, refl) (b.whole, refl) in (
      ap Ok (same_heading h k b.entries (subst (TellsHeading h) e.0 a.heading) b.heading),
      same_written (drop 4 b.entries) before after others (subst (λ x. Written (drop 4 x) before after) e.0 a.moves) b.moves,
    )
by_lines src before (Ok h) (Err m) after others a b =
    absurd (cc ((same_ends (length before) src [] b.rest a.entries b.entries None (Some m.flaw) a.text b.text (a.whole, refl) b.wrong).1))
by_lines src before (Err m) (Ok h) after others a b =
    absurd (cc ((same_ends (length before) src a.rest [] a.entries b.entries (Some m.flaw) None a.text b.text a.wrong (b.whole, refl)).1))
by_lines src before (Err m) (Err o) after others a b =
    let e = same_ends (length before) src a.rest b.rest a.entries b.entries (Some m.flaw) (Some o.flaw) a.text b.text a.wrong b.wrong in
    let flaw : m.flaw ≡ o.flaw = cc (e.1) in
    let line : m.line ≡ o.line = a.line ∙ ap (λ x. suc (length x)) e.0 ∙ sym b.line in (
      (λ i. Err (record { flaw = flaw i; line = line i })),
      same_written (drop 4 b.entries) before after others (subst (λ x. Written (drop 4 x) before after) e.0 a.moves) b.moves,
    )

pub one_outcome : (src : List ℕ) (before after others : List Move) (r s : Result Heading Misread) → Outcome src before r after → Outcome src before s others → (r ≡ s) × (after ≡ others)
one_outcome src before after others r s a b =
    ⊎_elim
    (λ l. let p = a.long l in let q = b.long l in (p.0 ∙ sym q.0, p.1 ∙ sym q.1))
    (λ l. by_lines src before r s after others (a.short l) (b.short l))
    (cases_lt 60000 (length src))

accepts : (src : List ℕ) (before after : List Move) (r : Result Heading Misread) → length src ≤ 60000 → ByLines src before r after → is_ok r ≡ true → IsText (length before) src
accepts src before after (Ok h) l a e = (l, a.entries, a.text, a.whole)
accepts src before after (Err m) l a e = absurd (clash e)

accepted : (src : List ℕ) (before after : List Move) (r : Result Heading Misread) → ByLines src before r after → (es : List Entry) → Front (length before) Facts src es [] → length es ≡ due es → is_ok r ≡ true
accepted src before after (Ok h) a es t w = refl
accepted src before after (Err m) a es t w =
    absurd (cc ((same_ends (length before) src [] a.rest es a.entries None (Some m.flaw) t a.text (w, refl) a.wrong).1))

pub exact_lines : (src : List ℕ) (before after : List Move) (r : Result Heading Misread) → length src ≤ 60000 → ByLines src before r after → Decides (is_ok r) (IsText (length before) src)
exact_lines src before after r l o = ((λ e. accepts src before after r l o e), λ t. accepted src before after r o t.1 t.2 t.3)

pub by_lines_outcome : (src : List ℕ) (before after : List Move) (r : Result Heading Misread) → length src ≤ 60000 → ByLines src before r after → Outcome src before r after
by_lines_outcome src before after r l o = record { long = λ k. absurd (omega arith); short = λ _. o }
