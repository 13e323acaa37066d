use Rattle.std.proofs.Common.{sym, ap, ◌∙◌}
use Rattle.grid.specs.Rows.{rows_of}
use Rattle.grid.specs.ImageReading.{image_said}
use Rattle.grid.specs.declared.image_layout.Layout.TheVariants.{VersionTwo}
use Rattle.gate_tasks.proofs.laws.images_bring_what_stood.Goals as goal

pub returns : goal.returns
returns c grid other opening events bytes rooms image servers room = record {
  maps = image.maps;
  servers = image.servers ∙ sym servers;
  stand = image.stand;
  rows = sym
      (ap (λ n. (image_said n bytes).rows) servers
      ∙ ap (λ b. (image_said grid.servers b).rows) image.is ∙ ap (λ reading. reading.rows) (c.image_laws.ensures.read_back VersionTwo grid.servers (rows_of image.maps) image.whole));
  room = room;
}
