use Rattle.msrp_trace.proofs.Telling.{ended_again, failed_left, gives_next}
use Rattle.msrp_trace.proofs.reading.TraceReader.next_row.Goals.{in-Rows, in-Ended, in-Failed}
use Rattle.msrp_trace.proofs.reading.TraceReader.next_row.Goals as goal

pub returns-clause-next : goal.returns-clause-next
returns-clause-next g c = λ told h. elim c.match-self.branch [
  | in-Rows w ↦ rw (c.after-self.ensures, w.self-is, w.answer-is) (gives_next told _ _ _ w.read_next-answer.ensures.state (w.read_next-answer.ensures.next told h))
  | in-Ended w ↦ ended_again told _ _ _ _ _ w.in-Ended.is h w.answer-is c.after-self.ensures
  | in-Failed w ↦ absurd (failed_left told _ _ w.in-Failed.is h)
]
