use Rattle.std.proofs.Common.{◌++◌, append_assoc}
use Rattle.text.specs.Growing.{said}
use Rattle.text.proofs.Adding.{further, ends}
use Rattle.console.specs.Transcript.{sheet_line, entry_lines, end_line, transcript}
use Rattle.console.proofs.transcript.put_transcript.Goals as goal

pub returns : goal.returns
unfolding transcript
returns c =
    let head = sheet_line c.args.counts in
    let entries = entry_lines 1 c.args.log.now in
    let end = end_line c.args.closing in
    let x = said c.args.text.now in
    ends c.put_end.result x _ _ (head ++ entries) end _
    (further x _ _ head entries c.in_ok-put_sheet.ensures c.in_ok-put_entries.ensures)
    (append_assoc head entries end) c.put_end.ensures
