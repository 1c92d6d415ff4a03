-- Cites the cases, one by one.
use Rattle.std.proofs.Common.{refl, arith}
use Rattle.books.proofs.Working.{worked}
use Rattle.runs.proofs.Worked.{oven_examples}
use Rattle.worked.proofs.Heating.{second_event, sixth_event}
use Rattle.worked.proofs.Masked.{oven_faultless, main_sets, third_party}
use Rattle.worked.proofs.cases.worked_cases_stand.Goals as goal

pub returns : goal.returns
returns c = record {
  cases = record {
    books = worked;
    oven_accepted = (oven_examples.valid, oven_examples.accepted, oven_faultless);
    main_sets = main_sets;
    second_event = second_event;
    sixth_event = sixth_event;
    oven_forecast = record { known = omega arith; least = oven_examples.oven_next };
    main_forecast = record { known = omega arith; least = oven_examples.main_next };
    third_party = third_party;
  };
  edition = refl;
}
