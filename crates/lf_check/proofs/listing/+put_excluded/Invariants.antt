use Rattle.lf_check.proofs.listing.+put_excluded.Given as goal

abbrev pub decreases-put_excluded : goal.decreases-put_excluded
decreases-put_excluded l = l.at
