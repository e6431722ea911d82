use Rattle.msrp_run.proofs.threads.run_logged_if.Goals as goal

pub returns-clause-logs : goal.returns-clause-logs
returns-clause-logs g c = (c.in_ok-logs.ensures.run c.if-not-all.false).logs_are

pub returns-clause-aheads : goal.returns-clause-aheads
returns-clause-aheads g c = (c.in_ok-logs.ensures.run c.if-not-all.false).aheads

pub returns-clause-opened : goal.returns-clause-opened
returns-clause-opened g c = (c.in_ok-logs.ensures.run c.if-not-all.false).opened

pub returns-clause-done : goal.returns-clause-done
returns-clause-done g c = (c.in_ok-logs.ensures.run c.if-not-all.false).done
