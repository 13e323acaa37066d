-- What a client asks for, as an item of the gateway's theorem.
use Rattle.std.specs.Prelude.{ℕ, List, length, false}
use Rattle.http_edge.specs.Judge.{head_parts}
use Rattle.http_edge.specs.Reply.{rendered}
use Rattle.http_edge.specs.declared.item.Head.{Head}
use Rattle.http_edge.specs.declared.item.Item.{Item}
use Rattle.http_edge.specs.declared.item.Item.TheVariants.{Request as RequestItem}
use Rattle.chk_file.specs.Look.{Look}
use Rattle.web_ops.specs.Answers.{request_reply}
use Rattle.gate_core.specs.Settings.{GatewaySettings, encoding_in}
use Rattle.gate_base.specs.Wire.{wire_reply}
use Rattle.gate_base.specs.Browsers.{sent_reply}
use Rattle.client_core.specs.Asks.{asked_head, meant}
use Rattle.client_core.specs.declared.ask.Ask.{Ask}

-- the head that a request has
abbrev pub head_asked : List ℕ → Ask → List ℕ → Head
head_asked host ask body = head_parts (asked_head host ask (length body))

-- the item that it is framed as
abbrev pub item_of : List ℕ → Ask → List ℕ → Item
item_of host ask body = RequestItem (head_asked host ask body) body false

-- the reply that is written for it, as it is sent where nothing is made for browsers
abbrev pub sent_for : GatewaySettings → Look → Ask → List ℕ → List ℕ
sent_for settings look ask body = rendered (wire_reply (request_reply (encoding_in settings) look (meant ask body))) false false

-- as these settings have it sent
abbrev pub told_for : GatewaySettings → Look → List ℕ → Ask → List ℕ → List ℕ
told_for settings look host ask body =
    rendered (sent_reply settings.for_browsers (head_asked host ask body) (request_reply (encoding_in settings) look (meant ask body))) false false
