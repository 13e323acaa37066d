use Rattle.client_core.proofs.RequestsFramed.{EdgeLaws, ask_framed}
use Rattle.client_core.proofs.laws.requests_are_framed.Goals as goal

pub returns : goal.returns
returns c =
    let edge : EdgeLaws = record {
      head = c.head_comes_first.ensures.head;
      verdict = c.head_comes_first.ensures.verdict;
      items = c.body_comes_next.ensures.items;
    } in
    ask_framed edge c.caps_have_one_text.ensures.some c.decimals_are_read_back.ensures.value c.decimals_are_read_back.ensures.printed
