-- Why a file is refused, and the text of that, byte by byte.
use Rattle.std.specs.Prelude.{◌≡◌, ℕ, List, ◌++◌, codes, decimal}
use Rattle.tasks.specs.Faults.{FirstFault}
use Rattle.tasks.specs.Refusals.{number_of as fault_number}
use Rattle.tasks.specs.declared.draft.Draft.{Draft}
use Rattle.tasks.specs.declared.refusal.Fault.{Fault}
use Rattle.taskfile.specs.Flaws.{number_of as flaw_number}
use Rattle.taskfile.specs.declared.misread.Misread.{Misread}
use Rattle.texts.specs.Files.{Says, Misreads}
use Rattle.texts.specs.declared.refused.Refused.{Refused}
use Rattle.texts.specs.declared.refused.Refused.TheVariants.{File, Draft as OfDraft}

-- the refusal of bytes that are no task file
abbrev pub of_misread : Misread → Refused
of_misread m = File m

-- the refusal of a draft with a fault
abbrev pub of_fault : Fault → Refused
of_fault e = OfDraft e

-- the bytes are refused so: they are no task file, or the draft that they say has this first fault
pub data Refuses (src : List ℕ) (r : Refused) : Type 0 where
  misread : {m : Misread} → Misreads src m → r ≡ of_misread m → Refuses src r
  faulty : {d : Draft} {e : Fault} → Says src d → FirstFault d e → r ≡ of_fault e → Refuses src r

-- a refusal, with its number and its line
abbrev pub text_of_refusal : ℕ → ℕ → List ℕ
text_of_refusal number line = codes "answer=refused\nnumber=" ++ (decimal number ++ (codes "\nline=" ++ (decimal line ++ codes "\n")))

-- a refusal by its reason: a misread file has a line, a draft none
abbrev pub text_of_refused : Refused → List ℕ
text_of_refused (File m) = text_of_refusal (flaw_number m.flaw) m.line
text_of_refused (OfDraft e) = text_of_refusal (fault_number e.refusal) 0
