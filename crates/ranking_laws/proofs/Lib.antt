mod Leaders
mod NearLists
mod CardTexts
mod Firsts
mod CandidateLists
mod Skips
mod BestPairs
