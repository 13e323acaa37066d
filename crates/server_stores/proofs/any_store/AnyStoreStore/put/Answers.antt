use Rattle.server_stores.proofs.any_store.AnyStoreStore.put.Goals as goal

pub returns-in-InMemory-clause-stood : goal.returns-in-InMemory-clause-stood
returns-in-InMemory-clause-stood g c = rw c.in-InMemory.is c.put.ensures.stood

pub returns-in-InFolder-clause-stood : goal.returns-in-InFolder-clause-stood
returns-in-InFolder-clause-stood g c = rw c.in-InFolder.is c.put-in-InFolder.ensures.stood

pub returns-in-OnDisk-clause-stood : goal.returns-in-OnDisk-clause-stood
returns-in-OnDisk-clause-stood g c = rw c.in-OnDisk.is c.put-in-OnDisk.ensures.stood

pub returns-in-OnRedis-clause-stood : goal.returns-in-OnRedis-clause-stood
returns-in-OnRedis-clause-stood g c = rw c.in-OnRedis.is c.put-in-OnRedis.ensures.stood

pub returns-in-InSharedFolder-clause-stood : goal.returns-in-InSharedFolder-clause-stood
returns-in-InSharedFolder-clause-stood g c = rw c.in-InSharedFolder.is c.put-in-InSharedFolder.ensures.stood

pub returns-in-OutOfReach-clause-stood : goal.returns-in-OutOfReach-clause-stood
returns-in-OutOfReach-clause-stood g c = rw c.in-OutOfReach.is c.put-in-OutOfReach.ensures.stood
