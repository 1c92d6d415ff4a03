-- Cites the two directions and the reading of an encoding.
use Rattle.std.proofs.Common.{refl}
use Rattle.sheet.specs.Decode.{model}
use Rattle.sheet.proofs.Sound.{sound}
use Rattle.sheet.proofs.Complete.{complete}
use Rattle.sheet.proofs.Pieces.{model_encode}
use Rattle.sheet.proofs.law.format_stands.Goals as goal

pub returns : goal.returns
returns c = record {
  exact = λ bytes ok. (λ clean. (model bytes, sound bytes ok clean), λ e. complete bytes e.0 e.1);
  faithful = λ sh v. model_encode sh;
  edition = refl;
}
