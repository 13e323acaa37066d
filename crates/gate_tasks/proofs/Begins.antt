-- The first lines of a run.
use Rattle.std.proofs.Common.{◌≡◌, ℕ, List, [], ◌∷◌, length, Bool, true, false, cond, Option, Some, None, refl, sym, ap, subst, ◌∙◌, arith, nat_le, inl, inr}
use Rattle.std.specs.Prelude.{All, IsTrue, replicate, ◌&&◌, ◌⊎◌}
use Rattle.std.proofs.lemmas.Bool.Decides.{nat_tests}
use Rattle.octets.specs.Sharing.{IsSharing}
use Rattle.grid.specs.GridState.{StoreState}
use Rattle.grid.specs.Standing.{at_server}
use Rattle.grid.specs.ImageReading.{image_said}
use Rattle.chk_file.specs.World.{empty}
use Rattle.gate_core.specs.Settings.{GatewaySettings}
use Rattle.gate_core.specs.Items.{items}
use Rattle.gate_core.specs.ConnectionState.{State, AreParameters}
use Rattle.gate_core.specs.Came.{Opening, Came, Starts}
use Rattle.gate_core.specs.declared.fault.GatewayFault.{GatewayFault}
use Rattle.gate_core.specs.declared.fault.GatewayFault.TheVariants.{BadParameters}
use Rattle.gate_tasks.specs.Stores.{fresh}
use Rattle.gate_tasks.specs.Script.{Step, is_refusal}
use Rattle.gate_tasks.specs.Replies.{settings_by, opening_by, are_parameters, IsOpenedBy, IsRestoreReply, AreTold}
use Rattle.gate_tasks.specs.Running.{CameBy, IsProgress, IsAnswer, Answered}
use Rattle.gate_tasks.specs.declared.command.Command.TheVariants as command
use Rattle.gate_tasks.specs.declared.command.Grid.{Grid}
use Rattle.gate_tasks.specs.declared.reply.Reply.{Reply}
use Rattle.gate_tasks.specs.declared.reply.Reply.TheVariants.{Done, Refused}
use Rattle.gate_tasks.proofs.StoreLists.{all_honest, room_is}

-- ---- parameters

are : (k n s l : ℕ) → (nat_le 1 k && nat_le k n && nat_le n 256 && nat_le 1 s && nat_le s 256 && nat_le l 256) ≡ true → AreParameters k n s l
are k n s l is = record {
  some_needed = grind (arith, nat_tests);
  enough = grind (arith, nat_tests);
  shares = grind (arith, nat_tests);
  some_server = grind (arith, nat_tests);
  servers_fit = grind (arith, nat_tests);
  secret_fits = grind (arith, nat_tests);
}

are_not : (k n s l : ℕ) → AreParameters k n s l → (nat_le 1 k && nat_le k n && nat_le n 256 && nat_le 1 s && nat_le s 256 && nat_le l 256) ≡ true
are_not k n s l p = grind (arith, nat_tests, p.some_needed, p.enough, p.shares, p.some_server, p.servers_fit, p.secret_fits)

pub sharing_of : (grid : Grid) → are_parameters grid ≡ true → IsSharing grid.k grid.n
sharing_of grid good =
    let p = are grid.k grid.n grid.servers (length grid.secret) good in
    record { some = p.some_needed; enough = p.enough; limit = p.shares }

true_or_false : (b : Bool) → (b ≡ true) ⊎ (b ≡ false)
true_or_false true = inl refl
true_or_false false = inr refl

-- a gateway is made exactly with such parameters
pub made_with : (grid : Grid) (servers secret : ℕ) (made bad : Type 0) → servers ≡ grid.servers → secret ≡ length grid.secret → made → (made → bad → ⊥) → (¬ (AreParameters grid.k grid.n servers secret) → bad) → are_parameters grid ≡ true
made_with grid servers secret made bad a b is apart refused =
    elim (true_or_false (are_parameters grid)) [
      | inl yes_ ↦ yes_
      | inr off ↦ absurd (apart is (refused (λ p. both (are_parameters grid) (subst (λ l. AreParameters grid.k grid.n grid.servers l) b (subst (λ s. AreParameters grid.k grid.n s secret) a p)) off)))
    ]
  where
    both : (t : Bool) → AreParameters grid.k grid.n grid.servers (length grid.secret) → are_parameters grid ≡ false → ⊥
    both t p off = cc (are_not grid.k grid.n grid.servers (length grid.secret) p)

pub refused_with : (grid : Grid) (servers secret : ℕ) (fault : GatewayFault) (P : Type 0) → servers ≡ grid.servers → secret ≡ length grid.secret → (AreParameters grid.k grid.n servers secret → P) → (P → ⊥)
    → (¬ (AreParameters grid.k grid.n servers secret) → fault ≡ BadParameters) → (fault ≡ BadParameters) × (are_parameters grid ≡ false)
refused_with grid servers secret fault P a b accepted never refused =
    let no_ : ¬ (AreParameters grid.k grid.n servers secret) = λ p. never (accepted p) in (
      refused no_,
      elim (true_or_false (are_parameters grid)) [
        | inl yes_ ↦ absurd (no_ (subst (λ s. AreParameters grid.k grid.n s secret) (sym a) (subst (λ l. AreParameters grid.k grid.n grid.servers l) (sym b) (are grid.k grid.n grid.servers (length grid.secret) yes_))))
        | inr off ↦ off
      ],
    )

-- ---- `grid`

pub set_is : (grid : Grid) (secret : List ℕ) (servers : ℕ) → secret ≡ grid.secret → servers ≡ grid.servers → (let s : GatewaySettings = record { k = grid.k; n = grid.n; secret = secret; servers = servers; pages = []; for_browsers = false } in s) ≡ settings_by grid
set_is grid secret servers a b =
    ap (λ q. let s : GatewaySettings = record { k = grid.k; n = grid.n; secret = q; servers = servers; pages = []; for_browsers = false } in s) a
    ∙ ap (λ q. let s : GatewaySettings = record { k = grid.k; n = grid.n; secret = grid.secret; servers = q; pages = []; for_browsers = false } in s) b

came_first : (grid : Grid) (g : State) → g.grid.stores ≡ replicate grid.servers (fresh grid.room) → Starts empty g → Came (opening_by grid) g []
unfolding items
came_first grid g is starts =
    let came = starts (subst (λ (stores : List StoreState). All (λ (t : StoreState). IsTrue t.honest) stores) (sym is) (all_honest grid.servers grid.room)) in
    record {
      servers = came.servers;
      stores = record {
        honest = came.stores.honest;
        stand = came.stores.stand;
        room = λ s. ap (λ (stores : List StoreState). at_server (λ (t : StoreState). t.room) stores s) is ∙ room_is grid.servers grid.room s;
      };
      each = came.each;
      bytes = came.bytes;
    }

pub begin_made : (log : List Step) (was : Option Grid) (grid : Grid) (g : State) → IsProgress log was None → g.settings ≡ settings_by grid → g.grid.stores ≡ replicate grid.servers (fresh grid.room) → Starts empty g → are_parameters grid ≡ true
    → Answered log (command.Grid grid) (Some Done) (Some grid) (Some g)
begin_made log None grid g at set is starts good =
    let step : Step = record { command = command.Grid grid; reply = Done } in
    subst (λ l. IsAnswer l step (Some grid) (Some g)) (sym at) record {
      stands = refl;
      told = record { made = ap (λ b. cond b Done (Refused BadParameters)) (sym good); restored = tt; replies = λ opening is. tt };
      ends = refl;
      at = λ _. (refl, record { settings = set; sharing = sharing_of grid good; as_written = λ opening opened calm. subst (λ o. Came o g []) (sym opened) (came_first grid g is starts) });
    }
begin_made log (Some was) grid g at set is starts good = absurd at

pub begin_refused : (log : List Step) (was after : Option Grid) (grid : Grid) (fault : GatewayFault) → IsProgress log was None → fault ≡ BadParameters → are_parameters grid ≡ false
    → Answered log (command.Grid grid) (Some (Refused fault)) after None
begin_refused log None after grid fault at is bad =
    let step : Step = record { command = command.Grid grid; reply = Refused fault } in
    subst (λ l. IsAnswer l step after None) (sym at) record {
      stands = refl;
      told = record { made = ap Refused is ∙ ap (λ b. cond b Done (Refused BadParameters)) (sym bad); restored = tt; replies = λ opening is. tt };
      ends = refl;
      at = λ h. absurd cc;
    }
begin_refused log (Some was) after grid fault at is bad = absurd at

-- ---- `restore`

pub restored : (log : List Step) (grid : Grid) (gateway : Option State) (image : List ℕ) (g : State) → IsProgress log (Some grid) gateway → AreTold log → g.settings ≡ settings_by grid → (image_said grid.servers image).fault ≡ None
    → ((opening : Opening) → IsOpenedBy grid image opening → Came opening g []) → Answered log (command.Restore image) (Some Done) None (Some g)
restored log grid None image g at told set sound came = absurd at
restored log grid (Some old) image g at told set sound came =
    let step : Step = record { command = command.Restore image; reply = Done } in
    let first : AreTold (record { command = command.Grid grid; reply = Done } ∷ []) = subst AreTold at.0 told in
    let was : CameBy (record { command = command.Grid grid; reply = Done } ∷ []) old = subst (λ l. CameBy l old) at.0 at.1 in
    subst (λ l. IsAnswer l step None (Some g)) (sym at.0) record {
      stands = refl;
      told = record { made = first.made; restored = record { answer = tt; done = λ _. sound; bad = λ place is. absurd cc; full = λ server is. absurd cc }; replies = λ opening opened. tt };
      ends = refl;
      at = λ _. (omega arith, record { settings = set; sharing = was.sharing; as_written = λ opening opened calm. came opening opened });
    }

pub restore_refused : (log : List Step) (grid : Grid) (gateway : Option State) (image : List ℕ) (reply : Reply) → IsProgress log (Some grid) gateway → AreTold log → is_refusal reply ≡ true → IsRestoreReply grid image reply
    → Answered log (command.Restore image) (Some reply) None None
restore_refused log grid None image reply at told refusal cause = absurd at
restore_refused log grid (Some old) image reply at told refusal cause =
    let step : Step = record { command = command.Restore image; reply = reply } in
    let first : AreTold (record { command = command.Grid grid; reply = Done } ∷ []) = subst AreTold at.0 told in
    subst (λ l. IsAnswer l step None None) (sym at.0) record {
      stands = refl;
      told = record { made = first.made; restored = cause; replies = λ opening opened. tt };
      ends = refusal;
      at = λ h. absurd cc;
    }
