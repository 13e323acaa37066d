use Rattle.server_stores.proofs.any_store.AnyStoreStore.numbers.Goals as goal

pub returns-in-InMemory-clause-seen : goal.returns-in-InMemory-clause-seen
returns-in-InMemory-clause-seen g c = rw c.in-InMemory.is c.numbers.ensures.seen

pub returns-in-InFolder-clause-seen : goal.returns-in-InFolder-clause-seen
returns-in-InFolder-clause-seen g c = rw c.in-InFolder.is c.numbers-in-InFolder.ensures.seen

pub returns-in-OnDisk-clause-seen : goal.returns-in-OnDisk-clause-seen
returns-in-OnDisk-clause-seen g c = rw c.in-OnDisk.is c.numbers-in-OnDisk.ensures.seen

pub returns-in-OnRedis-clause-seen : goal.returns-in-OnRedis-clause-seen
returns-in-OnRedis-clause-seen g c = rw c.in-OnRedis.is c.numbers-in-OnRedis.ensures.seen

pub returns-in-InSharedFolder-clause-seen : goal.returns-in-InSharedFolder-clause-seen
returns-in-InSharedFolder-clause-seen g c = rw c.in-InSharedFolder.is c.numbers-in-InSharedFolder.ensures.seen

pub returns-in-OutOfReach-clause-seen : goal.returns-in-OutOfReach-clause-seen
returns-in-OutOfReach-clause-seen g c = rw c.in-OutOfReach.is c.numbers-in-OutOfReach.ensures.seen
