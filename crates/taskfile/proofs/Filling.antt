-- Moves written to a list, one place after another.
use Rattle.std.proofs.Common.{◌≡◌, ℕ, zero, suc, ◌+◌, ◌*◌, ◌<◌, ◌≤◌, List, [], ◌∷◌, ◌++◌, length, take, drop, set, refl, ap, ◌∙◌, subst, arith}
use Rattle.std.proofs.lemmas.List.{length-append, length-take, take-append-drop}
use Rattle.tasks.specs.declared.moves.Move.{Move}
use Rattle.taskfile.specs.declared.keys.Key.TheVariants.{Group}
use Rattle.taskfile.specs.declared.misread.Misread.{Misread}
use Rattle.taskfile.specs.declared.reader.Reader.{Reader}
use Rattle.taskfile.specs.Entries.{Entry}
use Rattle.taskfile.specs.Fronts.{key_from}
use Rattle.taskfile.specs.Steps.{TookMove, TookMoves, StopsIn, StopsBefore, StopsWriting}
use Rattle.taskfile.specs.Tellings.{TellsMove, Written, stay, put}
use Rattle.taskfile.proofs.Fronting.{took_none, all_then, all_stops}

-- the move after the first i moves goes to place i
written_more : (i : ℕ) (es : List Entry) (before mid : List Move) (m : Move) (g p n k b : Entry) → Written es before mid → length es ≡ 5 * i → i < length mid → TellsMove m g p n k b → Written (es ++ (g ∷ p ∷ n ∷ k ∷ b ∷ [])) before (set mid i m)
written_more zero [] (x ∷ list) (y ∷ others) m g p n k b (stay h) e l t = put t (stay (omega arith))
written_more zero [] [] [] m g p n k b (stay h) e l t = absurd (omega arith)
written_more zero [] [] (y ∷ others) m g p n k b x e l t = elim x [ ]
written_more zero [] (x ∷ list) [] m g p n k b y e l t = elim y [ ]
written_more (suc i) [] before mid m g p n k b (stay h) e l t = absurd (omega arith)
written_more i (x ∷ es) before mid m g p n k b (stay h) e l t = absurd (omega arith)
written_more zero (_ ∷ _ ∷ _ ∷ _ ∷ _ ∷ es) (_ ∷ before) (new ∷ after) m g p n k b (put u w) e l t = absurd (omega arith)
written_more (suc i) (_ ∷ _ ∷ _ ∷ _ ∷ _ ∷ es) (_ ∷ before) (new ∷ after) m g p n k b (put u w) e l t =
    put u (written_more i es before after m g p n k b w (omega arith) (omega arith) t)

-- less than a move more writes nothing
written_part : (i : ℕ) (es fs : List Entry) (before mid : List Move) → Written es before mid → length es ≡ 5 * i → length fs < 5 → Written (es ++ fs) before mid
written_part i [] fs before mid (stay h) e l = stay l
written_part i (x ∷ es) fs before mid (stay h) e l = absurd (omega arith)
written_part zero (_ ∷ _ ∷ _ ∷ _ ∷ _ ∷ es) fs (_ ∷ before) (_ ∷ after) (put u w) e l = absurd (omega arith)
written_part (suc i) (_ ∷ _ ∷ _ ∷ _ ∷ _ ∷ es) fs (_ ∷ before) (_ ∷ after) (put u w) e l = put u (written_part i es fs before after w (omega arith) l)

-- what a longer list holds besides stays
written_wider : (es : List Entry) (before after tail : List Move) → Written es before after → Written es (before ++ tail) (after ++ tail)
written_wider es before after tail (stay h) = stay h
written_wider (_ ∷ _ ∷ _ ∷ _ ∷ _ ∷ es) (_ ∷ before) (_ ∷ after) tail (put t w) = put t (written_wider es before after tail w)

-- where the first places of a list are lent, what is written there stands before the others
beside : (i : ℕ) (es : List Entry) (before mid : List Move) → Written es (take i before) mid → Written es before (mid ++ drop i before)
beside i es before mid w = subst (λ l. Written es l (mid ++ drop i before)) (take-append-drop i before) (written_wider es (take i before) mid (drop i before) w)

module _ {room i n : ℕ} (is : i ≡ n) {a : Reader} {before mid : List Move} (fits : n ≤ length before) where
  pub took_lent : {b : Reader} → TookMoves room (length (take i before)) a (take i before) mid b → TookMoves room n a before (mid ++ drop i before) b
  took_lent t = record {
    entries = t.entries;
    many = omega (arith, t.many, is, length-take i before);
    written = beside i t.entries before mid t.written;
    lines = t.lines;
  }

  pub stops_lent : {m : Misread} → StopsWriting room (length (take i before)) a (take i before) mid m → StopsWriting room n a before (mid ++ drop i before) m
  stops_lent {m = m} s =
      let lent : length (take i before) ≡ n = omega (arith, is, length-take i before) in
      record { entries = s.entries; written = beside i s.entries before mid s.written; stops = subst (λ k. StopsIn room a (5 * k) m s.entries) lent s.stops }

pub moves_none : (room : ℕ) (a : Reader) (list : List Move) → TookMoves room 0 a list list a
moves_none room a list = record { entries = []; many = refl; written = stay (omega arith); lines = took_none room a }

module _ {room i : ℕ} {a b : Reader} {before mid : List Move} (t : TookMoves room i a before mid b) where
  pub moves_more : {m : Move} {d : Reader} → TookMove room b m d → i < length mid → TookMoves room (i + 1) a before (set mid i m) d
  moves_more {m = m} {d = d} s l =
      let five : List Entry = s.group ∷ s.price ∷ s.needs ∷ s.makes ∷ s.breaks ∷ [] in
      record {
        entries = t.entries ++ five;
        many = omega (arith, t.many, length-append t.entries five);
        written = written_more i t.entries before mid m _ _ _ _ _ t.written t.many l s.tells;
        lines = all_then room a b d t.entries five t.lines s.lines;
      }

  pub moves_stop : {moves : ℕ} {m : Misread} → StopsBefore room b 5 m → i < moves → StopsWriting room moves a before mid m
  moves_stop {m = m} (fs, s) l =
      let u = all_stops room a b 5 m t.entries fs t.lines s in
      record {
        entries = t.entries ++ fs;
        written = written_part i t.entries fs before mid t.written t.many s.few;
        stops = record { rest = u.rest; front = u.front; few = omega (arith, u.few, t.many); flaw = u.flaw; line = u.line };
      }

pub next_group : {room : ℕ} {b d : Reader} {m : Move} → b.expected ≡ Group → TookMove room b m d → d.expected ≡ Group
next_group key s = s.lines.next ∙ ap (λ x. key_from x (s.group ∷ s.price ∷ s.needs ∷ s.makes ∷ s.breaks ∷ [])) key
