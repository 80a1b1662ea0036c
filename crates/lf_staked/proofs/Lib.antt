mod StakesLemmas
