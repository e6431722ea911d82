use Rattle.msrp_board.proofs.BrokenBoards.{lost, shared, counted, holders, invented, old, acted, uncounted, stopped, let_in_early, second, nine, abort}
use Rattle.msrp_board.proofs.laws.broken_boards.Goals as goal

pub returns : goal.returns
returns c = record {
  lost_book = lost;
  shared_ticket = shared;
  counted_twice = counted;
  two_holders = holders;
  invented_grant = invented;
  old_poll = old;
  acted_twice = acted;
  lost_arrival = uncounted;
  invented_stop = stopped;
  early = let_in_early;
  second_word = second;
  nine_cores = nine;
  lost_abort = abort;
}
