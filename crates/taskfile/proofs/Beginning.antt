-- The lines of a heading, and those of a move, as far as they are read.
use Rattle.std.proofs.Common.{◌≡◌, ℕ, ◌<◌, ◌≤◌, [], ◌∷◌, sym, refl, ap, ◌∙◌, subst, arith}
use Rattle.facts.specs.declared.sets.FactSet.{FactSet}
use Rattle.taskfile.specs.declared.keys.Key.{Key}
use Rattle.taskfile.specs.declared.keys.Key.TheVariants.{Facts, Moves, Group}
use Rattle.taskfile.specs.declared.misread.Misread.{Misread}
use Rattle.taskfile.specs.declared.reader.Reader.{Reader}
use Rattle.taskfile.specs.Entries.{Entry, number, members, Fits}
use Rattle.taskfile.specs.Faults.{Faulty}
use Rattle.taskfile.specs.Keys.{after}
use Rattle.taskfile.specs.Steps.{TooMany, TookAs, Stops, TookAll, StopsBefore, TookHeading, TookMove}
use Rattle.taskfile.specs.Tellings.{TellsNumber, TellsSet, heading}
use Rattle.taskfile.proofs.Fronting.{one, all_then, took_none, and_one, stops_here, stops_now}

fits_count : (room : ℕ) (k : Key) (c : ℕ) (e : Entry) → TellsNumber c e → c ≤ room → Fits room k e
fits_count room k c (number n) t h = λ _. omega (arith, t)
fits_count room k c (members ns) t h = absurd t

fits_no_more : (room : ℕ) (k : Key) (c : ℕ) (e : Entry) → TellsNumber c e → k ≡ Moves → room < c → Fits room k e → ⊥
fits_no_more room k c (number n) t key h fits = let q = fits key in omega (arith, t)
fits_no_more room k c (members ns) t key h fits = t

module _ {room : ℕ} {a : Reader} where
  -- at the first line
  pub stops_first : {most : ℕ} {m : Misread} → Stops a m → 0 < most → StopsBefore room a most m
  stops_first s h = stops_now refl (took_none room a) s h

  module _ (key : a.expected ≡ Facts) {b : Reader} {f : ℕ} (t₁ : TookAs TellsNumber a f b) where
    heading_one : TookAll room a (t₁.entry ∷ []) b
    heading_one = and_one key (took_none room a) t₁.took (λ e. cc)

    pub stops_second : {m : Misread} → Stops b m → StopsBefore room a 4 m
    stops_second s = stops_now key heading_one s (omega arith)

    module _ {d : Reader} {c : ℕ} (t₂ : TookAs TellsNumber b c d) where
      pub stops_full : {m : Misread} → a.line ≡ 1 → room < c → TooMany m → StopsBefore room a 4 m
      stops_full l h t =
          let none = fits_no_more room b.expected c t₂.entry t₂.told (t₁.took.moved.next ∙ ap after key) h in
          stops_here key heading_one
          (subst (Faulty room b.expected b.rest.now) (sym t.flaw) (t₂.entry, (d.rest.now, t₂.took.text), t₂.took.formed, t₂.took.inside, none))
          (omega (arith, t.line, t₁.took.moved.count)) (omega arith)

      module _ (fit : c ≤ room) where
        heading_two : TookAll room a (t₁.entry ∷ t₂.entry ∷ []) d
        heading_two = all_then room a b d _ _ heading_one (one room b d t₂.entry t₂.took (fits_count room b.expected c t₂.entry t₂.told fit))

        pub stops_third : {m : Misread} → Stops d m → StopsBefore room a 4 m
        stops_third s = stops_now key heading_two s (omega arith)

        module _ {u : Reader} {start : FactSet} (t₃ : TookAs TellsSet d start u) where
          heading_three : TookAll room a (t₁.entry ∷ t₂.entry ∷ t₃.entry ∷ []) u
          heading_three = and_one key heading_two t₃.took (λ e. cc)

          pub stops_fourth : {m : Misread} → Stops u m → StopsBefore room a 4 m
          stops_fourth s = stops_now key heading_three s (omega arith)

          pub heading_whole : {v : Reader} {goal : FactSet} → TookAs TellsSet u goal v → TookHeading room a (record { facts = f; count = c; start = start; goal = goal }) v
          heading_whole t₄ = record { facts = t₁.entry; count = t₂.entry; start = t₃.entry; goal = t₄.entry; tells = heading t₁.told t₂.told t₃.told t₄.told; lines = and_one key heading_three t₄.took (λ e. cc) }

  module _ (key : a.expected ≡ Group) {b : Reader} {g : ℕ} (t₁ : TookAs TellsNumber a g b) where
    move_one : TookAll room a (t₁.entry ∷ []) b
    move_one = and_one key (took_none room a) t₁.took (λ e. cc)

    pub stops_price : {m : Misread} → Stops b m → StopsBefore room a 5 m
    stops_price s = stops_now key move_one s (omega arith)

    module _ {d : Reader} {p : ℕ} (t₂ : TookAs TellsNumber b p d) where
      move_two : TookAll room a (t₁.entry ∷ t₂.entry ∷ []) d
      move_two = and_one key move_one t₂.took (λ e. cc)

      pub stops_needs : {m : Misread} → Stops d m → StopsBefore room a 5 m
      stops_needs s = stops_now key move_two s (omega arith)

      module _ {u : Reader} {needs : FactSet} (t₃ : TookAs TellsSet d needs u) where
        move_three : TookAll room a (t₁.entry ∷ t₂.entry ∷ t₃.entry ∷ []) u
        move_three = and_one key move_two t₃.took (λ e. cc)

        pub stops_makes : {m : Misread} → Stops u m → StopsBefore room a 5 m
        stops_makes s = stops_now key move_three s (omega arith)

        module _ {v : Reader} {makes : FactSet} (t₄ : TookAs TellsSet u makes v) where
          move_four : TookAll room a (t₁.entry ∷ t₂.entry ∷ t₃.entry ∷ t₄.entry ∷ []) v
          move_four = and_one key move_three t₄.took (λ e. cc)

          pub stops_breaks : {m : Misread} → Stops v m → StopsBefore room a 5 m
          stops_breaks s = stops_now key move_four s (omega arith)

          pub move_whole : {w : Reader} {breaks : FactSet} → TookAs TellsSet v breaks w → TookMove room a (record { group = g; price = p; needs = needs; makes = makes; breaks = breaks }) w
          move_whole t₅ = record {
            group = t₁.entry;
            price = t₂.entry;
            needs = t₃.entry;
            makes = t₄.entry;
            breaks = t₅.entry;
            tells = record { group = t₁.told; price = t₂.told; needs = t₃.told; makes = t₄.told; breaks = t₅.told };
            lines = and_one key move_four t₅.took (λ e. cc);
          }
