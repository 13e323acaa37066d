-- Which caps a request meets.
use Rattle.std.specs.Prelude.{List, []}
use Rattle.caps.specs.declared.cap.Cap.{Cap}
use Rattle.chk_file.specs.Look.{Look}
use Rattle.path_walk.specs.Walk.{met as met_on_walk}
use Rattle.web_request.specs.declared.request.Request.{Request}
use Rattle.web_request.specs.declared.request.Request.TheVariants.{Put, Mkdir, Get, Check}

-- the cap that a request begins at, and each child that its walk goes on to; an upload meets none
abbrev pub caps_met : Look → Request → List Cap
caps_met look (Put bytes) = []
caps_met look (Mkdir json) = []
caps_met look (Get cap names json head_only range) = met_on_walk look.gives cap names
caps_met look (Check cap names verify) = met_on_walk look.gives cap names
