-- What the words of a command line ask for, by what was given with its verb.
use Rattle.std.specs.Prelude.{◌≡◌, ℕ, not, List, [], ◌∷◌, Option, Some, All, Any, codes, map, option_map, replicate}
use Rattle.octets.specs.Sharing.{IsSharing}
use Rattle.clap.specs.Words.{Row, first_of, subcommand_of}
use Rattle.clap.specs.declared.builder.value_parser.ValueParser.{ValueParser}
use Rattle.command_words.specs.Given.{IsVerb, is_set, word_of, words_of}
use Rattle.server_options.specs.CommandLine.{wozhinnam}
use Rattle.server_options.specs.Folders.{IsStoreFolder}
use Rattle.server_options.specs.Given.{IsNumberGiven, IsNumberIfGiven}
use Rattle.server_options.specs.Listening.{HasNoComma, listen_text}
use Rattle.server_options.specs.Logging.{named_format, named_level}
use Rattle.server_options.specs.Missing.{AreServedWithout, IsPresent}
use Rattle.server_options.specs.Named.{AreNamesOf}
use Rattle.server_options.specs.Shares.{IsPairOf}
use Rattle.server_options.specs.Size.{written_size}
use Rattle.server_options.specs.declared.store_names.StoreWanted.{StoreWanted}
use Rattle.server_options.specs.declared.store_names.StoreWanted.TheVariants.{Memory}
use Rattle.server_options.specs.declared.options.Options.{Options}
use Rattle.server_options.specs.declared.options.Repairing.{Repairing}
use Rattle.server_options.specs.declared.options.Reshaping.{Reshaping}
use Rattle.server_options.specs.declared.options.Restoring.{Restoring}
use Rattle.server_options.specs.declared.options.Shares.{Shares}
use Rattle.server_options.specs.declared.options.Task.{Task}
use Rattle.server_options.specs.declared.options.Task.TheVariants.{Serve, Check, Repair, Reshape, Image, Restore}

-- the stores that these texts name, each in its place, and where there is no text as many in memory as `--servers` says
abbrev pub AreNamedStores : List Row → ℕ → List (List ℕ) → List StoreWanted → Type 0
AreNamedStores rows room [] stores = (servers : ℕ) × (IsNumberGiven 16 rows (codes "servers") 5 servers × (stores ≡ replicate servers (Memory room)))
AreNamedStores rows room (text ∷ texts) stores = AreNamesOf room (text ∷ texts) stores

-- the stores that were named; one that doesn't say its room has that of `--room`
pub record AreStoresGiven (rows : List Row) (stores : List StoreWanted) : Type 0 where
  pub room : ℕ
  pub says_room : written_size (word_of (codes "room") rows) ≡ Some room
  pub named : AreNamedStores rows room (words_of (codes "store") rows) stores

-- the same, without those that are missing
pub record AreStoresServed (rows : List Row) (stores : List StoreWanted) : Type 0 where
  pub all : List StoreWanted
  pub given : AreStoresGiven rows all
  pub without : AreServedWithout (words_of (codes "missing") rows) all stores

-- the two numbers of `--shares`
pub record AreSharesGiven (rows : List Row) (shares : Shares) : Type 0 where
  pub pair : IsPairOf (word_of (codes "shares") rows) shares.needed shares.made
  pub sharing : IsSharing shares.needed shares.made

-- how connections are to be served
pub record AreServeOptions (rows : List Row) (o : Options) : Type 0 where
  pub listen : map listen_text o.listen.items ≡ words_of (codes "listen") rows
  pub addresses : All (λ wanted. HasNoComma wanted.address.now) o.listen.items
  pub control : option_map (λ s. s.now) o.control ≡ first_of (codes "control") rows
  pub control_token_file : option_map (λ s. s.now) o.control_token_file ≡ first_of (codes "control-token-file") rows
  pub shares : AreSharesGiven rows o.shares
  pub stores : AreStoresServed rows o.stores.items
  pub one_is_present : Any IsPresent o.stores.items
  pub new : map (λ s. s.now) o.new.items ≡ words_of (codes "new") rows
  pub new_is_a_store : All (λ path. IsStoreFolder o.stores.items path.now) o.new.items
  pub synced : o.synced ≡ not (is_set (codes "no-sync") rows)
  pub secret_file : option_map (λ s. s.now) o.secret_file ≡ first_of (codes "secret-file") rows
  pub redis_password_file : option_map (λ s. s.now) o.redis_password_file ≡ first_of (codes "redis-password-file") rows
  pub pages : option_map (λ s. s.now) o.pages ≡ first_of (codes "pages") rows
  pub no_pages : o.no_pages ≡ is_set (codes "no-pages") rows
  pub connections : IsNumberGiven 64 rows (codes "connections") 1 o.connections
  pub per_address : IsNumberIfGiven 64 rows (codes "per-address") o.per_address
  pub idle : IsNumberGiven 64 rows (codes "idle") 60 o.idle
  pub memory : written_size (word_of (codes "memory") rows) ≡ Some o.memory
  pub log_level : o.log_level ≡ named_level (word_of (codes "log-level") rows)
  pub log_format : o.log_format ≡ named_format (word_of (codes "log-format") rows)

-- which grid is to be repaired
pub record IsRepairing (rows : List Row) (o : Repairing) : Type 0 where
  pub places : map (λ s. s.now) o.places.items ≡ words_of (codes "paths") rows
  pub new : map (λ s. s.now) o.new.items ≡ words_of (codes "new") rows
  pub synced : o.synced ≡ not (is_set (codes "no-sync") rows)
  pub redis_password_file : option_map (λ s. s.now) o.redis_password_file ≡ first_of (codes "redis-password-file") rows

-- which grid is to be laid into other folders
pub record IsReshaping (rows : List Row) (o : Reshaping) : Type 0 where
  pub from : map (λ s. s.now) o.from.items ≡ words_of (codes "paths") rows
  pub into : map (λ s. s.now) o.into.items ≡ words_of (codes "into") rows
  pub synced : o.synced ≡ not (is_set (codes "no-sync") rows)

-- what an image is to be laid into
pub record IsRestoring (rows : List Row) (o : Restoring) : Type 0 where
  pub file : o.file.now ≡ word_of (codes "file") rows
  pub folders : map (λ s. s.now) o.folders.items ≡ words_of (codes "paths") rows
  pub shares : AreSharesGiven rows o.shares
  pub synced : o.synced ≡ not (is_set (codes "no-sync") rows)
  pub secret_file : option_map (λ s. s.now) o.secret_file ≡ first_of (codes "secret-file") rows

-- a task is what a verb asks for
abbrev pub IsTaskGiven : Option (List ℕ × List Row) → Task → Type 0
IsTaskGiven given (Serve options) = IsVerb given (codes "serve") (λ rows. AreServeOptions rows options)
IsTaskGiven given (Check folders) = IsVerb given (codes "check") (λ rows.
    map (λ s. s.now) folders.items ≡ words_of (codes "paths") rows)
IsTaskGiven given (Repair wanted) = IsVerb given (codes "repair") (λ rows. IsRepairing rows wanted)
IsTaskGiven given (Reshape wanted) = IsVerb given (codes "reshape") (λ rows. IsReshaping rows wanted)
IsTaskGiven given (Image folders) = IsVerb given (codes "image") (λ rows.
    map (λ s. s.now) folders.items ≡ words_of (codes "paths") rows)
IsTaskGiven given (Restore wanted) = IsVerb given (codes "restore") (λ rows. IsRestoring rows wanted)

-- a task is what the words of a command line ask for, the program's name first
abbrev pub IsAskedBy : List (List ℕ) → Task → Type 0
IsAskedBy words task = (levels formats : ValueParser) × IsTaskGiven (subcommand_of (wozhinnam levels formats) words) task
