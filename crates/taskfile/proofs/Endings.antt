-- What reading comes to, from its parts.
use Rattle.std.proofs.Common.{◌≡◌, ℕ, ◌+◌, ◌*◌, ◌≤◌, List, [], ◌∷◌, ◌++◌, length, drop, sym, refl, ap, ◌∙◌, subst, inl, inr, arith}
use Rattle.std.proofs.lemmas.List.{length-drop, nil_from_length}
use Rattle.tasks.specs.declared.moves.Move.{Move}
use Rattle.taskfile.specs.declared.heading.Heading.{Heading}
use Rattle.taskfile.specs.declared.keys.Key.TheVariants.{Facts, Moves, Group}
use Rattle.taskfile.specs.declared.misread.Misread.{Misread}
use Rattle.taskfile.specs.declared.reader.Reader.{Reader}
use Rattle.taskfile.specs.Entries.{Entry, number, members, Fits}
use Rattle.taskfile.specs.Faults.{Faulty}
use Rattle.taskfile.specs.Fronts.{key_from, AllGood, Front, announced, due}
use Rattle.taskfile.specs.Outcomes.{Accepted, Refused}
use Rattle.taskfile.specs.Steps.{LeftOver, TookAll, StopsIn, StopsBefore, TookHeading, TookMoves, StopsWriting}
use Rattle.taskfile.specs.Tellings.{TellsHeading, heading, Written, stay}
use Rattle.taskfile.proofs.Fronting.{all_then, all_stops}

-- more entries tell the same heading, with the same number of moves
tells_on : (h : Heading) (f c s g : Entry) (fs : List Entry) → TellsHeading h (f ∷ c ∷ s ∷ g ∷ []) → TellsHeading h (f ∷ c ∷ s ∷ g ∷ fs)
tells_on h f c s g fs (heading tf tc ts tg) = heading tf tc ts tg

counted : (h : Heading) (f c s g : Entry) (fs : List Entry) → TellsHeading h (f ∷ c ∷ s ∷ g ∷ []) → announced (f ∷ c ∷ s ∷ g ∷ fs) ≡ h.count
counted h f (number c) s g fs (heading tf tc ts tg) = sym tc
counted h f (members c) s g fs (heading tf tc ts tg) = absurd tc

-- what is known of the reader after the heading
pub record Ready (room : ℕ) (h : Heading) (b : Reader) : Type 0 where
  pub key : b.expected ≡ Group
  pub fits : h.count ≤ room

second_good : (room : ℕ) (h : Heading) (f c s g : Entry) → TellsHeading h (f ∷ c ∷ s ∷ g ∷ []) → Fits room Moves c → h.count ≤ room
second_good room h f (number c) s g (heading tf tc ts tg) fits = let n = fits refl in omega (arith, tc)
second_good room h f (members c) s g (heading tf tc ts tg) fits = absurd tc

abbrev pub first_four : {room : ℕ} {a b : Reader} {h : Heading} → TookHeading room a h b → List Entry
first_four t = t.facts ∷ t.count ∷ t.start ∷ t.goal ∷ []

pub ready : {room : ℕ} {a b : Reader} {h : Heading} → a.expected ≡ Facts → TookHeading room a h b → Ready room h b
ready {room = room} {h = h} key t = record {
  key = t.lines.next ∙ ap (λ k. key_from k (first_four t)) key;
  fits = second_good room h t.facts t.count t.start t.goal t.tells (subst (λ k. AllGood room k (first_four t)) key t.lines.front.good).1.0.fits;
}

module _ {a : Reader} {before : List Move} (key : a.expected ≡ Facts) (line : a.line ≡ 1) where
  -- a stop at a line that is due
  refused : (es : List Entry) (most : ℕ) {m : Misread} {after : List Move} → StopsIn (length before) a most m es → most ≤ due es → Written (drop 4 es) before after → Refused a.rest.now before m after
  refused es most {m = m} s few w = record {
    entries = es;
    rest = s.rest;
    text = subst (λ k. Front (length before) k a.rest.now es s.rest) key s.front;
    wrong = inl (omega (arith, s.few), subst (λ k. Faulty (length before) (key_from k es) s.rest m.flaw) key s.flaw);
    line = omega (arith, s.line);
    moves = w;
  }

  pub refused_heading : {m : Misread} → StopsBefore (length before) a 4 m → Refused a.rest.now before m before
  refused_heading (es, s) = refused es 4 s (omega arith) (stay (omega (arith, s.few, length-drop 4 es)))

  module _ {b : Reader} {h : Heading} (t : TookHeading (length before) a h b) where
    pub refused_moves : {after : List Move} {m : Misread} → StopsWriting (length before) h.count b before after m → Refused a.rest.now before m after
    refused_moves {m = m} s =
        let count = counted h t.facts t.count t.start t.goal s.entries t.tells in
        refused (first_four t ++ s.entries) (4 + 5 * h.count) (all_stops (length before) a b (5 * h.count) m (first_four t) s.entries t.lines s.stops) (omega arith) s.written

    module _ {d : Reader} {after : List Move} (u : TookMoves (length before) h.count b before after d) where
      all_lines : TookAll (length before) a (first_four t ++ u.entries) d
      all_lines = all_then (length before) a b d (first_four t) u.entries t.lines u.lines

      all_there : length (first_four t ++ u.entries) ≡ due (first_four t ++ u.entries)
      all_there = omega (arith, u.many, counted h t.facts t.count t.start t.goal u.entries t.tells)

      front : Front (length before) Facts a.rest.now (first_four t ++ u.entries) d.rest.now
      front = subst (λ k. Front (length before) k a.rest.now (first_four t ++ u.entries) d.rest.now) key all_lines.front

      pub accepted : length d.rest.now ≡ 0 → Accepted a.rest.now before h after
      accepted e = record {
        entries = first_four t ++ u.entries;
        text = subst (λ r. Front (length before) Facts a.rest.now (first_four t ++ u.entries) r) (nil_from_length d.rest.now e) front;
        whole = all_there;
        heading = tells_on h t.facts t.count t.start t.goal u.entries t.tells;
        moves = u.written;
      }

      pub left_over : {m : Misread} → LeftOver d m → Refused a.rest.now before m after
      left_over l = record {
        entries = first_four t ++ u.entries;
        rest = d.rest.now;
        text = front;
        wrong = inr (all_there, l.some, l.flaw);
        line = omega (arith, all_lines.count, l.line);
        moves = u.written;
      }
