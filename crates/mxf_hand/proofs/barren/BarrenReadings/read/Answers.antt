use Rattle.mxf_hand.proofs.barren.BarrenReadings.read.Goals as goal

pub returns-clause-barren : goal.returns-clause-barren
returns-clause-barren g c = λ h t b. c.in_ok-keep.ensures h b (c.in_ok-reading.ensures.reading h t b)
