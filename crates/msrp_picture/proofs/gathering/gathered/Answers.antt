use Rattle.msrp_picture.proofs.gathering.gathered.Goals as goal

pub returns : goal.returns
returns g c =
    let came = rw c.into_iter-item-iterator.ensures.into_iter_gives at c.loop-item.yielded_by in
    (c.loop-item.yielded, (c.loop-item.item-iterator, came, λ _. (c.next.new.self, c.in-None.ensures.steps)), (c.loop-item.invariant.items, c.loop-item.invariant.len))
