-- A read-out into the first places of a list, as one into the whole list.
use Rattle.std.proofs.Common.{◌≡◌, ℕ, ◌≤◌, min, List, ◌++◌, length, take, drop, Ok, Err, Result, sym, ap, ◌∙◌, subst, arith}
use Rattle.std.proofs.lemmas.List.{append_assoc, length-append, take-append-drop, drop-append-le, length-take-le}
use Rattle.costs.specs.declared.tally.Tally.{Ghosts}
use Rattle.theory.specs.Queue.{read_out, read, refused}
use Rattle.theory.specs.declared.refusal.Refusal.{Refusal}
use Rattle.search.specs.Calls.{Answered, ReadAnswered}
use Rattle.search.specs.declared.search.Search.{Search}
use Rattle.queues.specs.Calls.{ReadFront}

pub front_read : {V : Type 0} (tally : Ghosts V) (h : Search V) (room : ℕ) (list part part' rest : List ℕ) → part ≡ take (min room (length list)) list
    → rest ≡ drop (min room (length list)) list → length part' ≡ length part → (r : Result ℕ Refusal) → ReadAnswered tally h part part' r
    → ReadFront tally h room list (part' ++ rest) r
front_read tally h room list part part' rest is after kept = by_result
  where
    size : length part ≡ min room (length list)
    size = ap length is ∙ length-take-le (min room (length list)) list (omega arith)

    whole : part ++ rest ≡ list
    whole = ap (λ l. l ++ rest) is ∙ ap (λ l. take (min room (length list)) list ++ l) after ∙ take-append-drop (min room (length list)) list

    by_result : (r : Result ℕ Refusal) → ReadAnswered tally h part part' r → ReadFront tally h room list (part' ++ rest) r
    by_result (Ok n) said =
        let l = said.0 in
        let short : length l ≤ length part = omega (arith, kept, ap length said.1.written, length-append l (drop (length l) part)) in (
          l,
          record {
            told = said.1.told;
            written = ap (λ x. x ++ rest) said.1.written ∙ append_assoc l (drop (length l) part) rest
                ∙ ap (λ x. l ++ x) (sym (drop-append-le (length l) part rest short) ∙ ap (drop (length l)) whole);
          },
          subst (λ k. Answered tally (read_out k) (read l) h h) size said.2,
        )
    by_result (Err why) said =
        (ap (λ x. x ++ rest) said.0 ∙ whole, subst (λ k. Answered tally (read_out k) (refused why) h h) size said.1)
