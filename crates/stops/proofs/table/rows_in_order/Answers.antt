use Rattle.std.proofs.Common.{rules}
use Rattle.stops.proofs.Tables.{words_rise, words_named}
use Rattle.stops.proofs.table.rows_in_order.Goals as goal

pub returns : goal.returns
returns c = record { value = search rules; rising = words_rise; named = words_named }
