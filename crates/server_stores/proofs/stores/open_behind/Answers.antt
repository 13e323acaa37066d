use Rattle.server_stores.proofs.stores.open_behind.Goals as goal

pub returns-in_ok-push-in-Ok : goal.returns-in_ok-push-in-Ok
returns-in_ok-push-in-Ok g c = (c.in-Ok.store, (c.in_ok-push-in-Ok.ensures.items, c.in-Ok.ensures))
