-- What the exit of a `?` returns.
use Rattle.std.proofs.Common.{◌≡◌, Err, Result, ap, ◌∙◌}
use Rattle.std.proofs.lemmas.Result.{err_from_is_err_and}
use Rattle.std.specs.Result.{IsErrAnd}

pub exits : {A E : Type 0} {r : Result A E} {m : E} → IsErrAnd r (λ e. e ≡ m) → r ≡ Err m
exits {r = r} h = let p = err_from_is_err_and r h in p.1 ∙ ap Err p.2
