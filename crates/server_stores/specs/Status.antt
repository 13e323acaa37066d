-- Exit statuses.
use Rattle.std.specs.Prelude.{ℕ}
use Rattle.folder_shelf.specs.declared.fault.FolderFault.{FolderFault}
use Rattle.folder_shelf.specs.declared.fault.FolderFault.TheVariants as folder
use Rattle.redis_store.specs.declared.fault.ServerFault.{ServerFault}
use Rattle.redis_store.specs.declared.fault.ServerFault.TheVariants as server
use Rattle.server_stores.specs.declared.fault.ProgramFault.{ProgramFault}
use Rattle.server_stores.specs.declared.fault.ProgramFault.TheVariants.{PollFailed, Arguments, Listen, Shares, Stores, Room, Memory, New, Missing, AllMissing, NoAddress, AddressInUse, NotAllowed, NotBound, SecretUnread, SecretTooLong, TokenUnread, BadToken, FewHandles, NoMemory, NotPrinted, NotThere, NoneAbove, Empty, Folder, OtherGrid, Twice, NewFolder, DiskFull, NoRoom, NotEmpty, OtherCount, ImageUnread, BadImage, ImageUnwritten, NotWell, RedisUnknown, Redis, PasswordUnread, OptionsUnread, Options, PageUnread, NoPage, IrregularPage, LongPage, ManyPages}

-- the status where a folder was refused; 20 is between them, that of a full disk
abbrev pub folder_status : FolderFault → ℕ
folder_status folder.NotThere = 12
folder_status folder.NotAFolder = 13
folder_status folder.NotWritable = 14
folder_status folder.InUse = 15
folder_status folder.NoSettings = 16
folder_status folder.SettingsRotten = 17
folder_status (folder.OtherPlace place) = 18
folder_status folder.OtherGrid = 19
folder_status folder.Failed = 21
folder_status folder.NoMemory = 10

-- the status where a Redis server was refused: as of a folder where it is another's, or its settings are rotten
abbrev pub server_status : ServerFault → ℕ
server_status server.SettingsRotten = 17
server_status (server.OtherPlace place) = 18
server_status server.OtherGrid = 19
server_status server.OtherSecret = 19
server_status _ = 29

-- the status of a fault; 0 is that of a run that was stopped, or that did what it was asked
abbrev pub status_of : ProgramFault → ℕ
status_of PollFailed = 1
status_of Arguments = 2
status_of Listen = 2
status_of Shares = 2
status_of Stores = 2
status_of Room = 2
status_of Memory = 2
status_of New = 2
status_of Missing = 2
status_of AllMissing = 2
status_of (NoAddress place) = 3
status_of (AddressInUse place) = 4
status_of (NotAllowed place) = 5
status_of (NotBound place) = 6
status_of SecretUnread = 7
status_of SecretTooLong = 8
status_of TokenUnread = 7
status_of BadToken = 8
status_of (FewHandles allowed needed) = 9
status_of NoMemory = 10
status_of NotPrinted = 11
status_of NotThere = 12
status_of NoneAbove = 12
status_of Empty = 16
status_of (Folder fault) = folder_status fault
status_of (OtherGrid difference) = 19
status_of (Twice place) = 18
status_of NewFolder = 31
status_of DiskFull = 20
status_of NoRoom = 22
status_of NotEmpty = 23
status_of (OtherCount given servers) = 24
status_of ImageUnread = 25
status_of (BadImage place) = 26
status_of ImageUnwritten = 27
status_of NotWell = 28
status_of RedisUnknown = 29
status_of (Redis fault) = server_status fault
status_of PasswordUnread = 30
status_of OptionsUnread = 32
status_of Options = 33
status_of PageUnread = 34
status_of NoPage = 35
status_of IrregularPage = 35
status_of LongPage = 35
status_of ManyPages = 35
