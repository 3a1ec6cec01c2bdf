use Rattle.std.proofs.Common.{refl}
use Rattle.std.proofs.lemmas.List.Elements.{All-replicate}
use Rattle.texts.specs.Files.{IsBlank}
use Rattle.texts.proofs.drafts.room.Goals as goal

pub returns : goal.returns
returns c =
    let none = c.empty-none.ensures in
    All-replicate IsBlank 1024 _ (record { group = refl; price = refl; needs = none; makes = none; breaks = none })
