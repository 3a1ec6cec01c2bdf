-- The text of a draft is read as that draft.
use Rattle.std.proofs.Common.{◌≡◌, ℕ, zero, suc, ◌+◌, ◌*◌, ◌<◌, ◌≤◌, Bool, true, false, ◌⊎◌, List, [], ◌∷◌, ◌++◌, length, drop, Ok, Result, sym, refl, ap, ◌∙◌, subst, inl, inr, ⊎_elim, arith}
use Rattle.std.proofs.lemmas.List.{append-nil}
use Rattle.std.proofs.lemmas.Bool.{cases_eq, cases_lt}
use Rattle.std.specs.List.{AllByRecursion}
use Rattle.facts.specs.Sets.{has, Among, Rises, Lists}
use Rattle.facts.specs.declared.sets.FactSet.{FactSet}
use Rattle.tasks.specs.declared.draft.Draft.{Draft}
use Rattle.tasks.specs.declared.moves.Move.{Move}
use Rattle.taskfile.specs.declared.heading.Heading.{Heading}
use Rattle.taskfile.specs.declared.keys.Key.{Key}
use Rattle.taskfile.specs.declared.keys.Key.TheVariants.{Start, Goal, Group, Needs, Makes, Breaks}
use Rattle.taskfile.specs.declared.misread.Misread.{Misread}
use Rattle.taskfile.specs.Entries.{Short, Between, Good}
use Rattle.taskfile.specs.Fronts.{AllGood}
use Rattle.taskfile.specs.Keys.{one_number, highest}
use Rattle.taskfile.specs.Outcomes.{Accepted, Outcome}
use Rattle.taskfile.specs.Tellings.{heading, Written, stay, put}
use Rattle.taskfile.specs.Texts.{keep, facts_from, set_entry, move_entries, entries_of, text_of, heading_of, SetBetween, MoveBetween, DraftBetween, ReadsBack}
use Rattle.taskfile.proofs.Unique.{one_outcome}

-- what is kept
keep_among : (b : Bool) (f n : ℕ) (ns : List ℕ) → Among f (keep b n ns) → ((b ≡ true) × (f ≡ n)) ⊎ Among f ns
keep_among true f n ns (inl e) = inl (refl, e)
keep_among true f n ns (inr h) = inr h
keep_among false f n ns h = inr h

keep_first : (b : Bool) (n : ℕ) (ns : List ℕ) → b ≡ true → Among n (keep b n ns)
keep_first true n ns e = inl refl
keep_first false n ns e = absurd (let z : ◌≡◌ {A = ℕ} 0 1 = cc in omega arith)

keep_later : (b : Bool) (f n : ℕ) (ns : List ℕ) → Among f ns → Among f (keep b n ns)
keep_later true f n ns h = inr h
keep_later false f n ns h = h

keep_rises : (b : Bool) (n : ℕ) (ns : List ℕ) → ((f : ℕ) → Among f ns → n < f) → Rises ns → Rises (keep b n ns)
keep_rises true n ns low r = (low, r)
keep_rises false n ns low r = r

-- the list of a set's facts
listed : (s : FactSet) (g n f : ℕ) → Among f (facts_from s g n) → (g ≤ f) × (f < g + n) × (has s f ≡ true)
unfolding facts_from
listed s g zero f h = absurd h
listed s g (suc n) f h =
    ⊎_elim
    (λ e. (omega (arith, e.1), omega (arith, e.1), ap (has s) e.1 ∙ e.0))
    (λ a. let r = listed s (suc g) n f a in (omega (arith, r.0), omega (arith, r.1), r.2))
    (keep_among (has s g) f g (facts_from s (suc g) n) h)

all_listed : (s : FactSet) (g n f : ℕ) → g ≤ f → f < g + n → has s f ≡ true → Among f (facts_from s g n)
unfolding facts_from
all_listed s g zero f l h e = absurd (omega arith)
all_listed s g (suc n) f l h e =
    ⊎_elim
    (λ same. subst (λ x. Among x (keep (has s g) g (facts_from s (suc g) n))) (sym same) (keep_first (has s g) g (facts_from s (suc g) n) (ap (has s) (sym same) ∙ e)))
    (λ ne. let above : suc g ≤ f = ⊎_elim (λ k. k) (λ k. absurd (ne (omega arith))) (cases_lt g f) in
    keep_later (has s g) f g (facts_from s (suc g) n) (all_listed s (suc g) n f above (omega arith) e))
    (cases_eq f g)

listed_rises : (s : FactSet) (g n : ℕ) → Rises (facts_from s g n)
unfolding facts_from
listed_rises s g zero = tt
listed_rises s g (suc n) = keep_rises (has s g) g (facts_from s (suc g) n) (λ f a. omega (arith, (listed s (suc g) n f a).0)) (listed_rises s (suc g) n)

-- what holds of each fact holds of the list
every_among : (P : ℕ → Type 0) (ns : List ℕ) → ((f : ℕ) → Among f ns → P f) → AllByRecursion P ns
every_among P [] h = tt
every_among P (n ∷ ns) h = (h n (inl refl), every_among P ns (λ f a. h f (inr a)))

lists_set : (k : Key) (s : FactSet) → highest k ≡ 63 → SetBetween k s → Lists s (facts_from s 0 64)
lists_set k s top h = record {
  rising = listed_rises s 0 64;
  members = λ f. ((λ e. all_listed s 0 64 f (omega arith) (omega (arith, (h f e).1)) e), λ a. (listed s 0 64 f a).2);
}

good_set : (room : ℕ) (k : Key) (s : FactSet) → one_number k ≡ false → SetBetween k s → Good room k (set_entry s)
good_set room k s kind h = record {
  formed = (kind, listed_rises s 0 64, every_among Short _ (λ f a. omega (arith, (listed s 0 64 f a).1)));
  inside = every_among (Between k) _ (λ f a. h f (listed s 0 64 f a).2);
  fits = tt;
}

good_moves : (room : ℕ) (ms : List Move) → AllByRecursion MoveBetween ms → AllGood room Group (move_entries ms)
good_moves room [] h = tt
good_moves room (m ∷ ms) h = (
  record { formed = (refl, omega (arith, h.0.group.1)); inside = h.0.group; fits = λ e. absurd (cc) },
  (
    record { formed = (refl, omega (arith, h.0.price.1)); inside = h.0.price; fits = λ e. absurd (cc) },
    (
      good_set room Needs m.needs refl h.0.needs,
      (
        good_set room Makes m.makes refl h.0.makes,
        (
          good_set room Breaks m.breaks refl h.0.breaks,
          good_moves room ms h.1,
        ),
      ),
    ),
  ),
)

length_moves : (ms : List Move) → length (move_entries ms) ≡ 5 * length ms
length_moves [] = refl
length_moves (m ∷ ms) = omega (arith, length_moves ms)

written_moves : (ms before : List Move) → AllByRecursion MoveBetween ms → length ms ≤ length before → Written (move_entries ms) before (ms ++ drop (length ms) before)
written_moves [] before h l = stay (omega arith)
written_moves (m ∷ ms) [] h l = absurd (omega arith)
written_moves (m ∷ ms) (o ∷ before) h l =
    put (record {
      group = refl;
      price = refl;
      needs = lists_set Needs m.needs refl h.0.needs;
      makes = lists_set Makes m.makes refl h.0.makes;
      breaks = lists_set Breaks m.breaks refl h.0.breaks;
    }) (written_moves ms before h.1 (omega arith))

accepted_text : (d : Draft) (before : List Move) → DraftBetween d → length d.moves.now ≤ length before → Accepted (text_of d) before (heading_of d) (d.moves.now ++ drop (length d.moves.now) before)
accepted_text d before h l = record {
  entries = entries_of d;
  text = record {
    text = sym (append-nil (text_of d));
    good = (
      record { formed = (refl, omega (arith, h.facts.1)); inside = h.facts; fits = λ e. absurd (cc) },
      (
        record { formed = (refl, omega (arith, h.count.1)); inside = h.count; fits = λ _. l },
        (
          good_set (length before) Start d.start refl h.start,
          (
            good_set (length before) Goal d.goal refl h.goal,
            good_moves (length before) d.moves.now h.moves,
          ),
        ),
      ),
    );
  };
  whole = omega (arith, length_moves d.moves.now);
  heading = heading refl refl (lists_set Start d.start refl h.start) (lists_set Goal d.goal refl h.goal);
  moves = written_moves d.moves.now before h.moves l;
}

pub reads_back : (src : List ℕ) (before after : List Move) (r : Result Heading Misread) → Outcome src before r after → ReadsBack src before r after
reads_back src before after r o d e h short l =
    let whole : Outcome src before (Ok (heading_of d)) (d.moves.now ++ drop (length d.moves.now) before) =
    record { long = λ k. absurd (omega arith); short = λ _. subst (λ t. Accepted t before (heading_of d) (d.moves.now ++ drop (length d.moves.now) before)) (sym e) (accepted_text d before h l) } in
    one_outcome src before after (d.moves.now ++ drop (length d.moves.now) before) r (Ok (heading_of d)) o whole
