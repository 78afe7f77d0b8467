use Rattle.std.proofs.Common.{◌≡◌, map, List, ℕ, ap, sym, ◌∙◌}
use Rattle.std.specs.Prelude.{reverse}
use Rattle.std.proofs.lemmas.List.{reverse-reverse}
use Rattle.ssi_image.proofs.Packing.{reversed}
use Rattle.ssi_image.proofs.pieces.Pieces.new.Goals as goal

pub returns : goal.returns
returns c = reversed (λ piece. piece.items) c.args.code.items _ c.reverse.ensures.items
