-- Cites the examples.
use Rattle.std.proofs.Common.{refl}
use Rattle.runs.proofs.Worked.{oven_examples, ticker_examples, third_party_examples}
use Rattle.runs.proofs.examples.examples_stand.Goals as goal

pub returns : goal.returns
returns c = record { oven = oven_examples; ticker = ticker_examples; parties = third_party_examples; edition = refl }
