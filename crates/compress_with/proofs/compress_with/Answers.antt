-- `compress_with::compress_with` meets its contract: the generation is renewed, and the columns are compressed in it. The check gives every bound (Passed).
-- Assumes nothing.
use Rattle.definitions.proofs.Shaped.{shaped}
use Rattle.compress_with.proofs.Passed.{refused, header_words_stay, compressible_again, compressed}
use Rattle.compress_with.proofs.compress_with.Goals as goal

pub returns-then-report-links-clause-compressed : goal.returns-then-report-links-clause-compressed
returns-then-report-links-clause-compressed c = refused _ _ _ c.args.report.now c.if-report-links.true

pub renew_generation-renewed-requires : goal.renew_generation-renewed-requires
renew_generation-renewed-requires c = (shaped _ _ c.requires).header

pub compress_links-requires-clause-header : goal.compress_links-requires-clause-header
compress_links-requires-clause-header c = header_words_stay c.requires (c.renew_generation-renewed.ensures _ _ _ _)

pub compress_links-requires-clause-compressible : goal.compress_links-requires-clause-compressible
compress_links-requires-clause-compressible c =
    compressible_again c.requires (c.renew_generation-renewed.ensures _ _ _ _) _ c.if-report-links.false

pub returns-clause-compressed : goal.returns-clause-compressed
returns-clause-compressed c =
    let columns = c.compress_links.ensures in
    compressed c.requires (c.renew_generation-renewed.ensures _ _ _ _) _ c.if-report-links.false columns.moved columns.reported
