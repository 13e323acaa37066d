use Rattle.client_core.proofs.RequestsMeant.{ask_meant}
use Rattle.client_core.proofs.laws.requests_are_meant.Goals as goal

pub returns : goal.returns
returns c = ask_meant c.caps_have_one_text.ensures.some c.reading_is_decided.ensures.read
