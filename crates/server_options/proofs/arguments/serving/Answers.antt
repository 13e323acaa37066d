use Rattle.std.proofs.lemmas.Result.{IfOk-weaker}
use Rattle.server_options.specs.CommandLine.{serve_rules}
use Rattle.command_words.proofs.CommandLemmas.{listed}
use Rattle.server_options.proofs.arguments.serving.Goals as goal

pub returns : goal.returns
returns c =
    let level = c.log_level.ensures in
    let format = c.log_format.ensures in
    let rules = serve_rules level.0 format.0 in
    let zip = listed rules c.in_ok-list.ensures.items
    (c.config.ensures, (c.listen.ensures, (c.control.ensures, (c.control_token_file.ensures, (c.shares.ensures, (c.store.ensures, (c.in_ok-servers.ensures, (c.room.ensures, (c.new_folders.ensures, (c.missing_folders.ensures, (c.no_sync.ensures, (c.secret_file.ensures, (c.redis_password_file.ensures, (c.pages.ensures, (c.in_ok-no_pages.ensures, (c.connections.ensures, (c.per_address.ensures, (c.idle.ensures, (c.memory.ensures, (level.1, (format.1, tt))))))))))))))))))))) in
    IfOk-weaker c.verb.result _ _ (λ command is. (level.0, format.0, is)) (c.verb.ensures rules zip)
