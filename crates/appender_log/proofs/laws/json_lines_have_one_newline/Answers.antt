use Rattle.std.proofs.Common.{false, subst, sym}
use Rattle.json.proofs.Numbered.{ArePrintableOrBad-tokens}
use Rattle.json.specs.Print.{ArePrintableOrBad}
use Rattle.appender_log.proofs.JsonNewlines.{NoNewline, print_has_none}
use Rattle.appender_log.proofs.laws.json_lines_have_one_newline.Goals as goal

pub returns : goal.returns
returns c ts line is =
    let printable = subst ArePrintableOrBad is.reads_back (ArePrintableOrBad-tokens is.json) in
    (is.json, subst NoNewline (sym is.is_printed) (print_has_none false _ printable), is.is_line)
