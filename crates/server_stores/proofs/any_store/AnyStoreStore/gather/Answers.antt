use Rattle.server_stores.proofs.any_store.AnyStoreStore.gather.Goals as goal

pub returns-in-InMemory-clause-found : goal.returns-in-InMemory-clause-found
returns-in-InMemory-clause-found g c = rw c.in-InMemory.is c.gather.ensures.found

pub returns-in-InMemory-clause-seen : goal.returns-in-InMemory-clause-seen
returns-in-InMemory-clause-seen g c = rw c.in-InMemory.is c.gather.ensures.seen

pub returns-in-InFolder-clause-found : goal.returns-in-InFolder-clause-found
returns-in-InFolder-clause-found g c = rw c.in-InFolder.is c.gather-in-InFolder.ensures.found

pub returns-in-InFolder-clause-seen : goal.returns-in-InFolder-clause-seen
returns-in-InFolder-clause-seen g c = rw c.in-InFolder.is c.gather-in-InFolder.ensures.seen

pub returns-in-OnDisk-clause-found : goal.returns-in-OnDisk-clause-found
returns-in-OnDisk-clause-found g c = rw c.in-OnDisk.is c.gather-in-OnDisk.ensures.found

pub returns-in-OnDisk-clause-seen : goal.returns-in-OnDisk-clause-seen
returns-in-OnDisk-clause-seen g c = rw c.in-OnDisk.is c.gather-in-OnDisk.ensures.seen

pub returns-in-OnRedis-clause-found : goal.returns-in-OnRedis-clause-found
returns-in-OnRedis-clause-found g c = rw c.in-OnRedis.is c.gather-in-OnRedis.ensures.found

pub returns-in-OnRedis-clause-seen : goal.returns-in-OnRedis-clause-seen
returns-in-OnRedis-clause-seen g c = rw c.in-OnRedis.is c.gather-in-OnRedis.ensures.seen

pub returns-in-InSharedFolder-clause-found : goal.returns-in-InSharedFolder-clause-found
returns-in-InSharedFolder-clause-found g c = rw c.in-InSharedFolder.is c.gather-in-InSharedFolder.ensures.found

pub returns-in-InSharedFolder-clause-seen : goal.returns-in-InSharedFolder-clause-seen
returns-in-InSharedFolder-clause-seen g c = rw c.in-InSharedFolder.is c.gather-in-InSharedFolder.ensures.seen

pub returns-in-OutOfReach-clause-found : goal.returns-in-OutOfReach-clause-found
returns-in-OutOfReach-clause-found g c = rw c.in-OutOfReach.is c.gather-in-OutOfReach.ensures.found

pub returns-in-OutOfReach-clause-seen : goal.returns-in-OutOfReach-clause-seen
returns-in-OutOfReach-clause-seen g c = rw c.in-OutOfReach.is c.gather-in-OutOfReach.ensures.seen
