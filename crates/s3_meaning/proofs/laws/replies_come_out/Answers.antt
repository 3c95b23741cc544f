use Rattle.std.proofs.Common.{refl}
use Rattle.s3_cards.specs.Codes.{ebcdic, code_page}
use Rattle.s3_decimal.specs.Exact.{stored}
use Rattle.s3_meaning.specs.Runs.{ask, ended, to_totals, replied, halted}
use Rattle.s3_meaning.specs.Moving.{number_moved, field_moved, fields_moved}
use Rattle.s3_meaning.specs.Output.{printed, stored_or_halted, file_line_put, line_put, lines_put}
use Rattle.s3_meaning.specs.Calculating.{divided, not_found, chained_to, on_chain, chained, performed, calculated}
use Rattle.s3_meaning.specs.Cycle.{halts_shown, headings, cleared, headed, typed, on_read, file_read, files_read, totals, last_time, total_time, overflow_lines, detail_time, record_time, selected_or_last, reading_time, one_cycle, anew_within, again}
use Rattle.s3_meaning.specs.Inner.SheetWords.{asked}
use Rattle.s3_meaning.specs.Inner.ReplyCorners.{reply_corners}
use Rattle.s3_meaning.proofs.laws.replies_come_out.Goals as goal

pub returns : goal.returns
unfolding asked ask ended to_totals replied halted number_moved field_moved fields_moved printed stored_or_halted file_line_put line_put lines_put divided not_found chained_to on_chain chained performed calculated halts_shown headings cleared headed typed on_read file_read files_read totals last_time total_time overflow_lines detail_time record_time selected_or_last reading_time one_cycle anew_within again stored ebcdic code_page reply_corners
returns c = refl
