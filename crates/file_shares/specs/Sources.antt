-- Where a download's bytes come from.
use Rattle.file_shares.specs.Downloads.{DownloadValue}
use Rattle.file_shares.specs.declared.download.Source.{Source}
use Rattle.file_shares.specs.declared.download.Source.TheVariants.{Whole, Pinned}

abbrev pub download_of : Source → DownloadValue
download_of (Whole whole) = whole
download_of (Pinned shares) = shares
