use Rattle.msrp_advice.proofs.Places.{open-is}
use Rattle.msrp_advice.proofs.records.is_open.Goals as goal

pub returns-then-is_op : goal.returns-then-is_op
returns-then-is_op c = open-is c.args.before.now c.args.i c.index-before-i.result c.is_let_go.result c.requires c.index-before-i.is c.if-is_op.ensures c.is_let_go.ensures
